-- The test decides the `cond`; where the mode counts, the promises of both `gcd` calls are rewritten.
use mathlib.Core.Path.{◌∙◌}
use Rattle.bus.proofs.period.with_mode.Goals as goal

pub returns-then-counts : goal.returns-then-counts
returns-then-counts c = rw c.if-counts.true (c.gcd-then-counts.ensures ∙ rw c.gcd.ensures)
