-- Loops: the laws that carry a filling loop (`stores`) and a scan (`first_bad`). A scan's invariant is that the part
-- already seen gives `none`; one law goes a turn further, one ends the scan, one returns the place that was met.
use mathlib.Core.Path.{◌≡◌, refl, sym, ap, ◌∙◌}
use mathlib.Core.Bool.{Bool, true, false, cond, not}
use mathlib.Core.List.{List, [], ◌∷◌, ◌++◌}
use mathlib.Core.Option.{Option, none, some}
use mathlib.Core.Logic.{◌⊎◌, inl, inr}
use native.Mathlib.Nat.{not-suc-le-zero, le_of_suc-le-suc, suc_inj, ne_of_lt, lt_irrefl, eq-or-lt_of_le, zero-add}
use native.Mathlib.Numerals.{add-one}
use native.Mathlib.Omega.{arith}
use lib.ListN.{length, get_or, set, take, length-set}
use lib.Seq.{ext_get_or, get_or-take, length-take-le, set-get_or, get_or-set_same, get_or-set_other, take_all}
use Prim.Native.Nat.{ℕ, zero, suc, ◌+◌, ◌≤◌, ◌<◌, zero-le, suc-le-suc}
use Rattle.laws.specs.Lists.{next, or_next, first_bad, first_with, tab, up_to}
use Rattle.laws.specs.Loops.{stores}
use Rattle.laws.proofs.Lists.{take_more, length-tab, get_or-tab, length-up_to, get_or-up_to, up_to_more}

-- ---- stores

module _ {A : Type 0} (old : List A) (f : ℕ → A) where
  pub stores-none : old ≡ stores old f 0
  stores-none = refl

  pub stores_more : (n : ℕ) → set (stores old f n) n (f n) ≡ stores old f (n + 1)
  stores_more n = rw (add-one n)

  pub length-stores : (n : ℕ) → length (stores old f n) ≡ length old
  length-stores zero = refl
  length-stores (suc n) = length-set (stores old f n) n (f n) ∙ length-stores n

  -- what is not yet stored is as it was
  pub stores_beyond : (n k : ℕ) (d : A) → n ≤ k → get_or (stores old f n) k d ≡ get_or old k d
  stores_beyond zero k d h = refl
  stores_beyond (suc n) k d h =
      get_or-set_other (stores old f n) n k (f n) d (λ e. lt_irrefl n (omega arith)) ∙ stores_beyond n k d (omega arith)

  pub stores-next : (n : ℕ) (d : A) → get_or (stores old f n) n d ≡ get_or old n d
  stores-next n d = stores_beyond n n d (omega arith)

  -- a turn that leaves the place as it was
  pub stores-kept : (n : ℕ) (d : A) → f n ≡ get_or old n d → stores old f n ≡ stores old f (n + 1)
  stores-kept n d e = rw (add-one n, e, ← stores-next n d) (sym (set-get_or (stores old f n) n d))

  pub stores_at : (n k : ℕ) (d : A) → k < n → n ≤ length old → get_or (stores old f n) k d ≡ f k
  stores_at zero k d h w = absurd (not-suc-le-zero h)
  stores_at (suc n) k d h w = here (stores_at n k d) (eq-or-lt_of_le (le_of_suc-le-suc h))
    where
      here : (k < n → n ≤ length old → get_or (stores old f n) k d ≡ f k) → (k ≡ n) ⊎ (k < n) → get_or (set (stores old f n) n (f n)) k d ≡ f k
      here before (inl e) = rw e (get_or-set_same (stores old f n) n (f n) d (rw (length-stores n) w))
      here before (inr l) = get_or-set_other (stores old f n) n k (f n) d (ne_of_lt l) ∙ before l (omega arith)

  -- one turn of a filling loop
  pub stores_turn : (n : ℕ) {a : List A} {v : A} → a ≡ stores old f n → v ≡ f n → set a n v ≡ stores old f (n + 1)
  stores_turn n e q = rw (e, q) (stores_more n)

-- an array that is filled to its end holds the rule's values and nothing of the old array
pub stores-all : {A : Type 0} (old : List A) (f : ℕ → A) → stores old f (length old) ≡ tab f 0 (length old)
stores-all [] f = refl
stores-all {A} (x ∷ old) f = ext_get_or x whole _ (full ∙ sym (length-tab f 0 n)) at_each
  where
    n : ℕ
    n = length (x ∷ old)

    whole : List A
    whole = stores (x ∷ old) f n

    full : length whole ≡ n
    full = length-stores (x ∷ old) f n

    at_each : (i : ℕ) → i < length whole → get_or whole i x ≡ get_or (tab f 0 n) i x
    at_each i h =
        let w : i < n = rw full at h in
        stores_at (x ∷ old) f n i x w (omega arith) ∙ ap f (sym (zero-add i)) ∙ sym (get_or-tab f 0 n i x w)

-- ---- first_bad, of a list read by places

-- what `first_bad p l ≡ some k` says
pub record Bad {A : Type 0} (p : A → Bool) (l : List A) (d : A) (k : ℕ) : Type 0 where
  pub within : k < length l
  pub fails : p (get_or l k d) ≡ false
  pub before : (j : ℕ) → j < k → p (get_or l j d) ≡ true

pub none-some : {A B : Type 0} {a : A} → ◌≡◌ {A = Option A} none (some a) → B
none-some e = let z : ◌≡◌ {A = ℕ} 0 1 = cc in absurd (omega arith)

pub some_injective : {A : Type 0} {a b : A} → some a ≡ some b → a ≡ b
some_injective e = cc

or_next-none : (b : Bool) (r : Option ℕ) → or_next b r ≡ none → (b ≡ true) × (r ≡ none)
or_next-none true none e = (refl, refl)
or_next-none true (some i) e = none-some (sym e)
or_next-none false r e = none-some (sym e)

module _ {A : Type 0} (p : A → Bool) where
  pub first_bad-none : (l : List A) (d : A) → ((k : ℕ) → k < length l → p (get_or l k d) ≡ true) → first_bad p l ≡ none
  first_bad-none [] d h = refl
  first_bad-none (x ∷ l) d h = rw (h zero (omega arith), first_bad-none l d (λ k w. h (suc k) (suc-le-suc w)))

  pub first_bad-some : (l : List A) (d : A) (k : ℕ) → k < length l → p (get_or l k d) ≡ false
      → ((j : ℕ) → j < k → p (get_or l j d) ≡ true) → first_bad p l ≡ some k
  first_bad-some [] d k w e h = absurd (not-suc-le-zero w)
  first_bad-some (x ∷ l) d zero w e h = rw e
  first_bad-some (x ∷ l) d (suc k) w e h =
      rw (h zero (omega arith), first_bad-some l d k (le_of_suc-le-suc w) e (λ j v. h (suc j) (suc-le-suc v)))

  pub first_bad-passes : (l : List A) (d : A) (k : ℕ) → first_bad p l ≡ none → k < length l → p (get_or l k d) ≡ true
  first_bad-passes [] d k e w = absurd (not-suc-le-zero w)
  first_bad-passes (x ∷ l) d zero e w = (or_next-none (p x) (first_bad p l) e).0
  first_bad-passes (x ∷ l) d (suc k) e w = first_bad-passes l d k (or_next-none (p x) (first_bad p l) e).1 (le_of_suc-le-suc w)

  pub first_bad_bad : (l : List A) (d : A) (k : ℕ) → first_bad p l ≡ some k → Bad p l d k
  first_bad_bad [] d k e = none-some e
  first_bad_bad (x ∷ l) d k e = split (p x) (first_bad p l) k refl e (first_bad_bad l d)
    where
      split : (b : Bool) (r : Option ℕ) (k : ℕ) → p x ≡ b → or_next b r ≡ some k → ((i : ℕ) → r ≡ some i → Bad p l d i) → Bad p (x ∷ l) d k
      split false r zero q e rest = record { within = suc-le-suc zero-le; fails = q; before = λ j v. absurd (not-suc-le-zero v) }
      split false r (suc k) q e rest = let z : 0 ≡ suc k = some_injective e in absurd (omega arith)
      split true none k q e rest = none-some e
      split true (some i) zero q e rest = let z : suc i ≡ 0 = some_injective e in absurd (omega arith)
      split true (some i) (suc k) q e rest = later (rest k (ap some (suc_inj (some_injective e))))
        where
          earlier : ((j : ℕ) → j < k → p (get_or l j d) ≡ true) → (j : ℕ) → j < suc k → p (get_or (x ∷ l) j d) ≡ true
          earlier h zero v = q
          earlier h (suc j) v = h j (le_of_suc-le-suc v)

          later : Bad p l d k → Bad p (x ∷ l) d (suc k)
          later b = record { within = suc-le-suc b.within; fails = b.fails; before = earlier b.before }

  -- a list longer by what passes, by what fails, by anything behind what failed
  pub first_bad_pass : (l : List A) (x : A) → first_bad p l ≡ none → p x ≡ true → first_bad p (l ++ (x ∷ [])) ≡ none
  first_bad_pass [] x e q = rw q
  first_bad_pass (y ∷ l) x e q =
      let f = or_next-none (p y) (first_bad p l) e in
      rw (f.0, first_bad_pass l x f.1 q)

  -- one turn of a scan, its return, its end
  pub first_bad_more : (l : List A) (i : ℕ) (d : A) → i < length l → first_bad p (take i l) ≡ none → p (get_or l i d) ≡ true
      → first_bad p (take (i + 1) l) ≡ none
  first_bad_more l i d w e q = rw (take_more l i d w) (first_bad_pass (take i l) (get_or l i d) e q)

  pub first_bad_hit : (l : List A) (i : ℕ) (d : A) → i < length l → first_bad p (take i l) ≡ none → p (get_or l i d) ≡ false
      → first_bad p l ≡ some i
  first_bad_hit l i d w e q =
      let n : length (take i l) ≡ i = length-take-le i l (omega arith) in
      first_bad-some l d i w q (λ j v. rw (get_or-take i l j d v) at (first_bad-passes (take i l) d j e (rw n v)))

  pub first_bad-end : (l : List A) (i : ℕ) → length l ≤ i → first_bad p (take i l) ≡ none → first_bad p l ≡ none
  first_bad-end l i w e = sym (ap (first_bad p) (take_all i l w)) ∙ e

-- ---- first_bad, of the numbers below n

module _ (p : ℕ → Bool) where
  pub first_bad-up_to-none : (n : ℕ) → ((k : ℕ) → k < n → p k ≡ true) → first_bad p (up_to n) ≡ none
  first_bad-up_to-none n h =
      first_bad-none p (up_to n) 0 (λ k w. let v : k < n = rw (length-up_to n) at w in rw (get_or-up_to n k 0 v) (h k v))

  pub first_bad-up_to-some : (n k : ℕ) → k < n → p k ≡ false → ((j : ℕ) → j < k → p j ≡ true) → first_bad p (up_to n) ≡ some k
  first_bad-up_to-some n k w e h =
      first_bad-some p (up_to n) 0 k (rw (length-up_to n) w) (rw (get_or-up_to n k 0 w) e)
      (λ j v. rw (get_or-up_to n j 0 (omega arith)) (h j v))

  pub first_bad-up_to-passes : (n k : ℕ) → first_bad p (up_to n) ≡ none → k < n → p k ≡ true
  first_bad-up_to-passes n k e w = rw (get_or-up_to n k 0 w) at (first_bad-passes p (up_to n) 0 k e (rw (length-up_to n) w))

  pub first_bad-up_to_more : (i : ℕ) → first_bad p (up_to i) ≡ none → p i ≡ true → first_bad p (up_to (i + 1)) ≡ none
  first_bad-up_to_more i e q = rw (up_to_more i) (first_bad_pass p (up_to i) i e q)

  pub first_bad-up_to_hit : (n k : ℕ) → k < n → first_bad p (up_to k) ≡ none → p k ≡ false → first_bad p (up_to n) ≡ some k
  first_bad-up_to_hit n k w e q = first_bad-up_to-some n k w q (λ j v. first_bad-up_to-passes k j e v)

  pub first_bad-up_to-within : (n k : ℕ) → first_bad p (up_to n) ≡ some k → k < n
  first_bad-up_to-within n k e = rw (length-up_to n) at (first_bad_bad p (up_to n) 0 k e).within

  pub first_bad-up_to-fails : (n k : ℕ) → first_bad p (up_to n) ≡ some k → p k ≡ false
  first_bad-up_to-fails n k e = rw (get_or-up_to n k 0 (first_bad-up_to-within n k e)) at (first_bad_bad p (up_to n) 0 k e).fails

  pub first_bad-up_to-before : (n k j : ℕ) → first_bad p (up_to n) ≡ some k → j < k → p j ≡ true
  first_bad-up_to-before n k j e v =
      let w = first_bad-up_to-within n k e in
      rw (get_or-up_to n j 0 (omega arith)) at ((first_bad_bad p (up_to n) 0 k e).before j v)

-- a list's first bad element is the first bad place of it
pub first_bad-places : {A : Type 0} (p : A → Bool) (l : List A) (d : A) → first_bad p l ≡ first_bad (λ k. p (get_or l k d)) (up_to (length l))
first_bad-places p l d = go (first_bad p l) refl
  where
    go : (o : Option ℕ) → first_bad p l ≡ o → first_bad p l ≡ first_bad (λ k. p (get_or l k d)) (up_to (length l))
    go none e = e ∙ sym (first_bad-up_to-none (λ k. p (get_or l k d)) (length l) (λ k w. first_bad-passes p l d k e w))
    go (some k) e =
        let b = first_bad_bad p l d k e in
        e ∙ sym (first_bad-up_to-some (λ k. p (get_or l k d)) (length l) k b.within b.fails b.before)

-- ---- first_with

here-or : (b : Bool) {r s : Option ℕ} → r ≡ s → cond b (some zero) (next r) ≡ or_next (not b) s
here-or true e = refl
here-or false e = ap next e

-- the first that passes a test is the first that fails its opposite
pub first_with_bad : {A : Type 0} (p : A → Bool) (l : List A) → first_with p l ≡ first_bad (λ x. not (p x)) l
first_with_bad p [] = refl
first_with_bad p (x ∷ l) = here-or (p x) (first_with_bad p l)
