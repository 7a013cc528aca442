-- Orders: what `compare` tells, and that no second strictly sorted list has the same members.
use mathlib.Core.Path.{◌≡◌, refl, sym, ap₂, ◌∙◌, subst}
use mathlib.Core.Bool.{true, false}
use mathlib.Core.List.Memᴰ
use mathlib.Core.List.{List, [], ◌∷◌, Memᴰ}
use mathlib.Core.Logic.{◌⊎◌, inl, inr}
use native.Mathlib.Nat.{not-suc-le-zero, le_of_suc-le-suc, eq-or-lt_of_le}
use native.Mathlib.Omega.{arith}
use borrow.Author.Tests.{leb-true, leb-false}
use lib.Dec.{leb}
use Prim.Native.Nat.compare
use Prim.Native.Nat.{Ordering}
use Prim.Native.Nat.{ℕ, zero, suc, ◌≤◌, ◌<◌, compare}
use Rattle.laws.proofs.Lists.{tested}
use Rattle.laws.proofs.Members.{All, Pairs, before, all_member}

-- ---- compare

pub lt≢eq : {C : Type 0} → Ordering.lt ≡ Ordering.eq → C
lt≢eq e = let z : ◌≡◌ {A = ℕ} 0 1 = cc in absurd (omega arith)

pub lt≢gt : {C : Type 0} → Ordering.lt ≡ Ordering.gt → C
lt≢gt e = let z : ◌≡◌ {A = ℕ} 0 1 = cc in absurd (omega arith)

pub eq≢gt : {C : Type 0} → Ordering.eq ≡ Ordering.gt → C
eq≢gt e = let z : ◌≡◌ {A = ℕ} 0 1 = cc in absurd (omega arith)

pub compare_less : (m n : ℕ) → m < n → compare m n ≡ Ordering.lt
compare_less m zero h = absurd (not-suc-le-zero h)
compare_less zero (suc n) h = compare.zero-suc n
compare_less (suc m) (suc n) h = compare.suc-suc m n ∙ compare_less m n (le_of_suc-le-suc h)

pub compare_more : (m n : ℕ) → n < m → compare m n ≡ Ordering.gt
compare_more zero n h = absurd (not-suc-le-zero h)
compare_more (suc m) zero h = compare.suc-zero m
compare_more (suc m) (suc n) h = compare.suc-suc m n ∙ compare_more m n (le_of_suc-le-suc h)

pub compare_same : (m : ℕ) → compare m m ≡ Ordering.eq
compare_same zero = compare.zero-zero
compare_same (suc m) = compare.suc-suc m m ∙ compare_same m

pub le-or-lt : (m n : ℕ) → (m ≤ n) ⊎ (n < m)
le-or-lt m n = decided (tested (leb m n))
  where
    decided : (leb m n ≡ true) ⊎ (leb m n ≡ false) → (m ≤ n) ⊎ (n < m)
    decided (inl e) = inl (leb-true m n e)
    decided (inr e) = inr (leb-false m n e)

-- the answer, by what it says
pub compare_case : {C : Type 0} (m n : ℕ) → (m < n → compare m n ≡ Ordering.lt → C) → (m ≡ n → compare m n ≡ Ordering.eq → C)
    → (n < m → compare m n ≡ Ordering.gt → C) → C
compare_case {C} m n less same more = decided (le-or-lt m n)
  where
    below : (m ≡ n) ⊎ (m < n) → C
    below (inl e) = same e (rw e (compare_same n))
    below (inr h) = less h (compare_less m n h)

    decided : (m ≤ n) ⊎ (n < m) → C
    decided (inl h) = below (eq-or-lt_of_le h)
    decided (inr h) = more h (compare_more m n h)

pub less_of : (m n : ℕ) → compare m n ≡ Ordering.lt → m < n
less_of m n e = compare_case m n (λ h q. h) (λ h q. lt≢eq (sym e ∙ q)) (λ h q. lt≢gt (sym e ∙ q))

pub same_of : (m n : ℕ) → compare m n ≡ Ordering.eq → m ≡ n
same_of m n e = compare_case m n (λ h q. lt≢eq (sym q ∙ e)) (λ h q. h) (λ h q. eq≢gt (sym e ∙ q))

pub more_of : (m n : ℕ) → compare m n ≡ Ordering.gt → n < m
more_of m n e = compare_case m n (λ h q. lt≢gt (sym q ∙ e)) (λ h q. eq≢gt (sym q ∙ e)) (λ h q. h)

-- ---- sorted lists

module _ {A : Type 0} {R : A → A → Type 0} (irreflexive : (a : A) → R a a → ⊥) (transitive : (a b c : A) → R a b → R b c → R a c) where
  -- what stands in both lists behind equal heads
  behind : (x y : A) (l m : List A) → x ≡ y → All (R x) l → ((z : A) → Memᴰ z (x ∷ l) → Memᴰ z (y ∷ m)) → (z : A)
      → Memᴰ z l → Memᴰ z m
  behind x y l m e a f z i = which (Memᴰ.cases_cons (f z (Memᴰ.tail i)))
    where
      which : (z ≡ y) ⊎ Memᴰ z m → Memᴰ z m
      which (inl q) = absurd (irreflexive x (subst (R x) (q ∙ sym e) (all_member a i)))
      which (inr j) = j

  heads : (x y : A) (l m : List A) → All (R x) l → All (R y) m → (x ≡ y) ⊎ Memᴰ x m → (y ≡ x) ⊎ Memᴰ y l → x ≡ y
  heads x y l m a b (inl e) j = e
  heads x y l m a b (inr i) (inl e) = sym e
  heads x y l m a b (inr i) (inr j) = absurd (irreflexive x (transitive x y x (all_member a j) (all_member b i)))

  pub sorted_unique : (l m : List A) → Pairs R l → Pairs R m → ((x : A) → Memᴰ x l → Memᴰ x m)
      → ((x : A) → Memᴰ x m → Memᴰ x l) → l ≡ m
  sorted_unique [] [] p q f g = refl
  sorted_unique [] (y ∷ m) p q f g = absurd (Memᴰ.not-nil (g y (Memᴰ.head refl)))
  sorted_unique (x ∷ l) [] p q f g = absurd (Memᴰ.not-nil (f x (Memᴰ.head refl)))
  sorted_unique (x ∷ l) (y ∷ m) (before a p) (before b q) f g =
      let i = Memᴰ.cases_cons (f x (Memᴰ.head refl)) in
      let j = Memᴰ.cases_cons (g y (Memᴰ.head refl)) in
      let e : x ≡ y = heads x y l m a b i j in
      let r : l ≡ m = sorted_unique l m p q (behind x y l m e a f) (behind y x m l (sym e) b g) in
      ap₂ ◌∷◌ e r
