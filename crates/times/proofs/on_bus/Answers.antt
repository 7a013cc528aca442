-- The promises of `max` and `of_bits` are rewritten into `on_bus`.
use mathlib.Core.Path.{◌∙◌}
use Rattle.plan.specs.Memory.{bus_seen}
use Rattle.rules.specs.Frames.{on_bus}
use Rattle.times.proofs.on_bus.Goals as goal

pub returns : goal.returns
unfolding on_bus bus_seen
returns c = (c.of_bits.ensures.0 ∙ rw (c.from-3.ensures, c.from-2.ensures, c.from.ensures, c.max.ensures), c.of_bits.ensures.1)
