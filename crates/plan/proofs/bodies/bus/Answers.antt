-- `bus_with` promises the numbers of kind 1, and the bits are those that kind 1 means.
use mathlib.Core.Path.{◌∙◌}
use Rattle.rules.specs.Records.{record_of}
use Rattle.rules.specs.Plan.{bus_of, is_kind}
use Rattle.plan.specs.Memory.{with_byte_bits}
use Rattle.plan.proofs.bodies.bus.Goals as goal

pub returns : goal.returns
unfolding with_byte_bits bus_of is_kind record_of
returns c = c.bus_with.ensures ∙ rw c.plain.ensures
