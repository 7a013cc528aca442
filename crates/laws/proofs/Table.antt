-- A rule at every place of a table, by one test that antt computes.
use mathlib.Core.Path.{◌≡◌, refl, ap, ◌∙◌}
use mathlib.Core.Bool.{Bool, true, false, ◌&&◌}
use Prim.Native.Nat.{ℕ, zero, suc, ◌<◌}
use native.Mathlib.Nat.{not-suc-le-zero}
use native.Mathlib.Omega.{arith}
use lib.Dec.{eqb}
use Rattle.laws.proofs.Lists.{both_left, both_right}
use borrow.Author.Tests.{eqb-true, eqb-false}

-- the test passes at each place below n
abbrev pub every_below : (ℕ → Bool) → ℕ → Bool
every_below f zero = true
every_below f (suc n) = f n && every_below f n

module _ (f : ℕ → Bool) where
  -- at place n itself, or at one before it
  split : (n k : ℕ) (b : Bool) → eqb k n ≡ b → f n ≡ true → (k < n → f k ≡ true) → k < suc n → f k ≡ true
  split n k true e t r h = ap f (eqb-true k n e) ∙ t
  split n k false e t r h = r (omega (arith, eqb-false k n e))

  pub below : (n : ℕ) → every_below f n ≡ true → (k : ℕ) → k < n → f k ≡ true
  below zero t k h = absurd (not-suc-le-zero h)
  below (suc n) t k h =
      split n k (eqb k n) refl (both_left (f n) (every_below f n) t) (below n (both_right (f n) (every_below f n) t) k) h
