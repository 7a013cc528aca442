use mathlib.Core.Path.{refl, sym, ◌∙◌}
use native.Mathlib.Nat.{mod-lt}
use Prim.Native.Nat.{◌<◌}
use Rattle.laws.proofs.Divisors.{gcd-step, gcd-zero}
use native.Mathlib.Omega.{arith}
use Rattle.figures.proofs.gcd.Goals as goal

turning : (c : goal.In-loop-y) → 0 < c.loop-y.y
turning c = omega arith

pub loop-y-init : goal.loop-y-init
loop-y-init c = refl

pub loop-y-smaller : goal.loop-y-smaller
loop-y-smaller c = mod-lt _ (turning c)

pub loop-y-preserved : goal.loop-y-preserved
loop-y-preserved c = sym (gcd-step _ _ (turning c)) ∙ c.loop-y.invariant

pub returns : goal.returns
returns c = rw (c.loop-y-test.false, gcd-zero) at c.loop-y.invariant
