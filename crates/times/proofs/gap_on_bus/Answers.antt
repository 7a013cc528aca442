-- The promise of `of_bits` is the statement, once `gap_on_bus` is unfolded.
use mathlib.Core.Path.{◌∙◌}
use Rattle.plan.specs.Memory.{bus_seen}
use Rattle.rules.specs.Frames.{gap_on_bus}
use Rattle.times.proofs.gap_on_bus.Goals as goal

pub returns : goal.returns
unfolding gap_on_bus bus_seen
returns c = (c.of_bits.ensures.0 ∙ rw c.from.ensures, c.of_bits.ensures.1)
