-- A fold over the first entries of a list is the test of each place below.
use mathlib.Core.Path.{◌≡◌, refl, ap, ◌∙◌}
use mathlib.Core.Bool.{Bool, true, false, ◌&&◌}
use mathlib.Core.List.{List, [], ◌∷◌}
use native.Mathlib.Nat.{add-zero, add-suc, suc-add, sub-zero}
use native.Mathlib.Omega.{arith}
use lib.ListN.{length, get_or, take}
use lib.Seq.{get_or-take, length-take-le}
use Prim.Native.Nat.{ℕ, zero, suc, ◌+◌, ◌≤◌, ◌<◌, suc-le-suc}
use Rattle.std.specs.List.{fold, slice_range}
use Rattle.laws.specs.Lists.{all, tab, up_to}

module _ {A : Type 0} (p : A → Bool) where
  fold-all : (b : Bool) (l : List A) → fold (λ good x. good && p x) b l ≡ (b && all p l)
  fold-all true [] = refl
  fold-all false [] = refl
  fold-all true (x ∷ l) = fold-all (p x) l
  fold-all false (x ∷ l) = fold-all false l

  module _ (q : ℕ → Bool) (d : A) where
    all-tab : (l : List A) (low : ℕ) → ((k : ℕ) → k < length l → p (get_or l k d) ≡ q (low + k)) → all p l ≡ all q (tab (λ k. k) low (length l))
    all-tab [] low h = refl
    all-tab (x ∷ l) low h =
        let here : p x ≡ q low = rw (add-zero low) at (h zero (omega arith)) in
        rw (here, all-tab l (suc low) (λ k w. rw (add-suc low k, ← suc-add low k) at (h (suc k) (suc-le-suc w))))

    pub front_all : (l : List A) (n : ℕ) → n ≤ length l → ((k : ℕ) → k < n → p (get_or l k d) ≡ q k)
        → fold (λ good x. good && p x) true (slice_range l 0 n) ≡ all q (up_to n)
    front_all l n w h =
        let size : length (take n l) ≡ n = length-take-le n l w in
        let each : all p (take n l) ≡ all q (up_to (length (take n l))) = all-tab (take n l) 0 (λ k v.
        let u : k < n = rw size at v in
        let e : 0 + k ≡ k = omega arith in
        rw (e, get_or-take n l k d u) (h k u)) in
        rw (sub-zero n) (fold-all true (take n l) ∙ each ∙ ap (λ m. all q (up_to m)) size)
