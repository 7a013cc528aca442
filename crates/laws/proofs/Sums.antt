-- Sums: the numbers of a list together, and the greatest of them.
use mathlib.Core.Path.{◌≡◌, refl, ap}
use mathlib.Core.Bool.{Bool, true, false}
use mathlib.Core.List.{List, ◌∷◌, map, Memᴰ}
use mathlib.Core.Logic.{◌⊎◌, inl, inr}
use native.Mathlib.Nat.{eq-or-lt_of_le}
use native.Mathlib.Omega.{arith}
use Prim.Native.Nat.{ℕ, zero, suc, ◌+◌, ◌≤◌, ◌<◌, zero-le}
use Rattle.laws.specs.Lists.{cons_if, keep, tab, up_to}
use Rattle.laws.specs.Numbers.{sum, greatest}
use Rattle.laws.proofs.Lists.{tested}
use Rattle.laws.proofs.Tests.{by_itself}
use Rattle.laws.proofs.Faults.{by_fails}
use Rattle.laws.proofs.Members.{All, empty, also, Pairs, alone, before, all_weaker, all_map, all-tab, keep-nothing, keep_member, member_map}

-- ---- the greatest number

pub greatest-least : {b : ℕ} {l : List ℕ} → All (λ x. x ≤ b) l → greatest l ≤ b
greatest-least empty = zero-le
greatest-least (also h r) = omega (arith, h, greatest-least r)

pub greatest-above : {x : ℕ} {l : List ℕ} → Memᴰ x l → x ≤ greatest l
greatest-above (Memᴰ.head e) = omega (arith, e)
greatest-above (Memᴰ.tail m) = omega (arith, greatest-above m)

-- ---- the sum

pub sum-above : {x : ℕ} {l : List ℕ} → Memᴰ x l → x ≤ sum l
sum-above (Memᴰ.head e) = omega (arith, e)
sum-above (Memᴰ.tail m) = omega (arith, sum-above m)

pub sum_zeros : {l : List ℕ} → All (λ x. x ≡ 0) l → sum l ≡ 0
sum_zeros empty = refl
sum_zeros (also h r) = omega (arith, h, sum_zeros r)

sum-one-from : (f : ℕ → ℕ) (m lo n : ℕ) → lo ≤ m → m < lo + n → ((k : ℕ) → (k ≡ m → ⊥) → f k ≡ 0)
    → sum (map f (tab (λ k. k) lo n)) ≡ f m
sum-one-from f m lo zero a b h = absurd (omega arith)
sum-one-from f m lo (suc n) a b h = first (sum-one-from f m (suc lo) n) (eq-or-lt_of_le a)
  where
    first : (suc lo ≤ m → m < suc lo + n → ((k : ℕ) → (k ≡ m → ⊥) → f k ≡ 0) → sum (map f (tab (λ k. k) (suc lo) n)) ≡ f m)
        → (lo ≡ m) ⊎ (lo < m) → sum (map f (tab (λ k. k) lo (suc n))) ≡ f m
    first later (inl e) =
        let rest = sum_zeros (all_map {P = λ x. x ≡ 0} f (all-tab (λ k. k) (suc lo) n (λ k c d. h k (omega arith)))) in
        omega (arith, rest, ap f e)
    first later (inr l) = omega (arith, h lo (omega arith), later l (omega arith) h)

-- one number, and zeros
pub sum_one : (f : ℕ → ℕ) (m n : ℕ) → m < n → ((k : ℕ) → (k ≡ m → ⊥) → f k ≡ 0) → sum (map f (up_to n)) ≡ f m
sum_one f m n w h = sum-one-from f m 0 n zero-le (omega arith) h

-- ---- numbers of the elements that pass a test

module _ {A : Type 0} (size : A → ℕ) (p : A → Bool) where
  pub kept_above : {x : A} {l : List A} → p x ≡ true → Memᴰ x l → size x ≤ sum (map size (keep p l))
  kept_above e m = sum-above (member_map size (keep_member p e m))

  -- where no two pass, one is there or none
  pub kept-one : {l : List A} → Pairs (λ x y. p x ≡ true → p y ≡ true → ⊥) l → sum (map size (keep p l)) ≤ greatest (map size l)
  kept-one alone = zero-le
  kept-one (before {x} {l} a r) = first (tested (p x)) (kept-one r)
    where
      first : (p x ≡ true) ⊎ (p x ≡ false) → sum (map size (keep p l)) ≤ greatest (map size l)
          → sum (map size (cons_if (p x) x (keep p l))) ≤ greatest (map size (x ∷ l))
      first (inr e) rest = rw e (omega (arith, rest))
      first (inl e) rest = rw (e, keep-nothing p (all_weaker (λ y h. by_fails (by_itself (p y)) (h e)) a)) (omega arith)
