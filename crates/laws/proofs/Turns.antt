-- Turns: what a loop over 0, 1, .. knows of what it has done so far, as records, so that a turn and the end of a loop are one law each,
-- with nothing to be written out where they are cited: a scan without an early exit (`Tested`), a scan that stops at the first number
-- that fails (`Passed`), and an array filled by a rule (`Filled`).
use mathlib.Core.Path.{◌≡◌, refl, sym, ap, ◌∙◌}
use mathlib.Core.Bool.{Bool, true, false, ◌&&◌}
use mathlib.Core.List.{List, [], ◌∷◌}
use mathlib.Core.Option.{none, some}
use native.Mathlib.Nat.{le_antisymm}
use native.Mathlib.Omega.{arith}
use lib.ListN.{get_or, set}
use Prim.Native.Nat.{ℕ, zero, suc, ◌+◌, ◌≤◌, ◌<◌}
use Rattle.laws.specs.Lists.{all, any, first_bad, tab, up_to}
use Rattle.laws.specs.Loops.{stores}
use Rattle.laws.proofs.Lists.{all-up_to_more}
use Rattle.laws.proofs.Loops.{stores_turn, stores-next, first_bad-up_to_more, first_bad-up_to_hit}

-- ---- a scan without an early exit

-- the numbers below n were tested, and g says whether all passed
pub record Tested (p : ℕ → Bool) (n : ℕ) (g : Bool) : Type 0 where
  pub says : g ≡ all p (up_to n)

module _ {p : ℕ → Bool} where
  pub tested_none : Tested p 0 true
  tested_none = record { says = refl }

  pub tested_turn : {n : ℕ} {r g b : Bool} → Tested p n g → r ≡ (g && b) → b ≡ p n → Tested p (n + 1) r
  tested_turn {n} t e h = record { says = rw (e, t.says, h) (sym (all-up_to_more p n)) }

  pub tested_end : {n i : ℕ} {g : Bool} → Tested p i g → i ≤ n → n ≤ i → g ≡ all p (up_to n)
  tested_end t h w = t.says ∙ ap (λ k. all p (up_to k)) (le_antisymm h w)

-- ---- a scan that stops at the first number that fails

-- the numbers below n passed
pub record Passed (p : ℕ → Bool) (n : ℕ) : Type 0 where
  pub says : first_bad p (up_to n) ≡ none

module _ {p : ℕ → Bool} where
  pub passed_none : Passed p 0
  passed_none = record { says = refl }

  pub passed_turn : {n : ℕ} {b : Bool} → Passed p n → b ≡ p n → b ≡ true → Passed p (n + 1)
  passed_turn {n} t h e = record { says = first_bad-up_to_more p n t.says (sym h ∙ e) }

  pub passed_hit : {n i : ℕ} {b : Bool} → Passed p i → i < n → b ≡ p i → b ≡ false → some i ≡ first_bad p (up_to n)
  passed_hit {n} {i} t w h e = sym (first_bad-up_to_hit p n i w t.says (sym h ∙ e))

  pub passed_end : {n i : ℕ} → Passed p i → i ≤ n → n ≤ i → none ≡ first_bad p (up_to n)
  passed_end t h w = sym t.says ∙ ap (λ k. first_bad p (up_to k)) (le_antisymm h w)

-- ---- an array filled by a rule

-- the places below n hold the rule's values, the others what they held
pub record Filled {A : Type 0} (old : List A) (f : ℕ → A) (n : ℕ) (now : List A) : Type 0 where
  pub says : now ≡ stores old f n

module _ {A : Type 0} {old : List A} {f : ℕ → A} where
  pub filled_none : Filled old f 0 old
  filled_none = record { says = refl }

  pub filled_turn : {n : ℕ} {a : List A} {v : A} → Filled old f n a → v ≡ f n → Filled old f (n + 1) (set a n v)
  filled_turn {n} t h = record { says = stores_turn old f n t.says h }

  -- the place that comes next is as it was
  pub filled_next : {n : ℕ} {a : List A} → Filled old f n a → (d : A) → get_or a n d ≡ get_or old n d
  filled_next {n} t d = rw t.says (stores-next old f n d)

  pub filled-end : {n i : ℕ} {a : List A} → Filled old f i a → i ≤ n → n ≤ i → a ≡ stores old f n
  filled-end t h w = t.says ∙ ap (stores old f) (le_antisymm h w)

-- ---- tests that agree

pub first_bad-same : {A : Type 0} (p q : A → Bool) → ((x : A) → p x ≡ q x) → (l : List A) → first_bad p l ≡ first_bad q l
first_bad-same p q h [] = refl
first_bad-same p q h (x ∷ l) = rw (h x, first_bad-same p q h l)

-- tests that agree below n first fail at the same number below n
module _ (p q : ℕ → Bool) where
  tab_bad : (low n : ℕ) → ((k : ℕ) → low ≤ k → k < low + n → p k ≡ q k) → first_bad p (tab (λ k. k) low n) ≡ first_bad q (tab (λ k. k) low n)
  tab_bad low zero h = refl
  tab_bad low (suc n) h =
      rw (h low (omega arith) (omega arith), tab_bad (suc low) n (λ k v w. h k (omega arith) (omega arith)))

  pub same_bad : (n : ℕ) → ((k : ℕ) → k < n → p k ≡ q k) → first_bad p (up_to n) ≡ first_bad q (up_to n)
  same_bad n h = tab_bad 0 n (λ k v w. h k (omega arith))

-- one of the places passes either test
module _ {A : Type 0} (p : ℕ → Bool) (q : A → Bool) (f : ℕ → A) where
  tab-any : (low n : ℕ) → ((k : ℕ) → low ≤ k → k < low + n → p k ≡ q (f k)) → any p (tab (λ k. k) low n) ≡ any q (tab f low n)
  tab-any low zero h = refl
  tab-any low (suc n) h =
      rw (h low (omega arith) (omega arith), tab-any (suc low) n (λ k v w. h k (omega arith) (omega arith)))

  pub same-any : (n : ℕ) → ((k : ℕ) → k < n → p k ≡ q (f k)) → any p (up_to n) ≡ any q (tab f 0 n)
  same-any n h = tab-any 0 n (λ k v w. h k (omega arith))
