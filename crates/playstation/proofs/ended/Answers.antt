-- By the tests, the callee's promise is rewritten into the definitions.
use mathlib.Core.Path.{refl, ◌∙◌}
use borrow.Author.Tests.{le-leb, lt-leb}
use Rattle.text.specs.Text.{too_long_line}
use native.Mathlib.Omega.{arith}
use Rattle.playstation.proofs.ended.Goals as goal

pub returns-then-came-gt-LONGEST : goal.returns-then-came-gt-LONGEST
unfolding too_long_line
returns-then-came-gt-LONGEST c =
    record { out_after = rw (lt-leb _ _ c.if-came-gt-LONGEST.true) (c.put_too_long.ensures.0, c.refused.ensures.0 ∙ c.put_too_long.ensures.1); status_value = rw (lt-leb _ _ c.if-came-gt-LONGEST.true) c.refused.ensures.1; few = omega (arith, c.refused.ensures.0, c.put_too_long.ensures.1) }

pub returns-then-begun : goal.returns-then-begun
returns-then-begun c =
    record { out_after = rw (le-leb _ _ c.if-came-gt-LONGEST.false) (refl, c.done.ensures.0); status_value = rw (le-leb _ _ c.if-came-gt-LONGEST.false, c.if-begun.true) c.done.ensures.1; few = omega (arith, c.done.ensures.0) }

pub returns : goal.returns
returns c =
    record { out_after = rw (le-leb _ _ c.if-came-gt-LONGEST.false) (refl, c.refused-2.ensures.0); status_value = rw (le-leb _ _ c.if-came-gt-LONGEST.false, c.if-begun.false) c.refused-2.ensures.1; few = omega (arith, c.refused-2.ensures.0) }
