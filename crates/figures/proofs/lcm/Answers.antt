-- Where a divides b, b is the lcm (`lcm_unique`); else the gcd is not 0 (`some`), and the definition's product fits 64 bits.
use mathlib.Core.Path.{◌≡◌, sym, ◌∙◌}
use mathlib.Core.Bool.{false}
use mathlib.Core.Logic.{◌⊎◌, inl, inr}
use native.Mathlib.Nat.{div-le_self, mul-le-mul, dvd_refl, dvd-zero, eq-zero_of_zero-dvd, eq-zero-or-pos}
use native.Mathlib.Omega.{arith}
use Prim.Native.Nat.{ℕ, ◌-◌, ◌≤◌, ◌<◌, ◌^◌}
use Rattle.laws.specs.Numbers.{divides, gcd, lcm}
use Rattle.laws.proofs.Lists.{true-false}
use Rattle.laws.proofs.Divisors.{divides-true, divides-is, gcd_right, lcm_unique}
use Rattle.figures.proofs.lcm.Goals as goal

-- two numbers of which the first does not divide the second are not both 0
some : (a b g : ℕ) → g ≡ gcd a b → divides a b ≡ false → 0 < g
some a b g e f = which (eq-zero-or-pos g)
  where
    which : (g ≡ 0) ⊎ (0 < g) → 0 < g
    which (inl z) =
        let n : b ≡ 0 = eq-zero_of_zero-dvd (rw (← e, z) at (gcd_right a b)) in
        absurd (true-false (sym (divides-is a b (rw n (dvd-zero a))) ∙ f))
    which (inr h) = h

pub returns-then-divides : goal.returns-then-divides
returns-then-divides c =
    rw c.from.ensures
    (lcm_unique _ _ _ (divides-true _ _ (sym c.divides.ensures ∙ c.if-divides.true)) (dvd_refl _) (λ m p q. q))

pub nonzero_div-times : goal.nonzero_div-times
nonzero_div-times c = some _ _ _ c.gcd.ensures (sym c.divides.ensures ∙ c.if-divides.false)

pub overflow_mul-result : goal.overflow_mul-result
overflow_mul-result c =
    let a : c.from-2.result ≤ 2 ^ 32 - 1 = rw c.from-2.ensures (omega (arith, div-le_self c.args.a c.gcd.result)) in
    let b : c.from-3.result ≤ 2 ^ 32 - 1 = rw c.from-3.ensures (omega arith) in
    omega (arith, mul-le-mul a b)

pub returns : goal.returns
unfolding lcm
returns c = rw (c.from-2.ensures, c.from-3.ensures, c.gcd.ensures)
