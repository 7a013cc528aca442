-- Invariant: the gcd of the pair held is that of the pair given; each turn is `gcd-step`, and the remainder is below the divisor.
use mathlib.Core.Path.{◌≡◌}
use Rattle.laws.specs.Numbers.{gcd}
use Rattle.figures.proofs.gcd.Given as goal

abbrev pub invariant-loop-y : goal.invariant-loop-y
invariant-loop-y l = gcd l.x l.y ≡ gcd l.a l.b

abbrev pub decreases-loop-y : goal.decreases-loop-y
decreases-loop-y l = l.y
