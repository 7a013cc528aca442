-- Rows of equal length, one behind another: how long they are together, what stands in them, and one row more in an array that is zero behind.
use mathlib.Core.Path.{◌≡◌, refl, sym, ap, ◌∙◌}
use mathlib.Core.List.{List, [], ◌∷◌, ◌++◌, append_assoc, append-nil}
use native.Mathlib.Nat.{add-zero, zero-mul, suc-mul, zero-add, not-suc-le-zero, le_of_suc-le-suc}
use native.Mathlib.Omega.{arith}
use lib.ListN.{length, get_or, set, take, length-append, length-take, get_or-append}
use lib.Seq.{sets, take_all, get_or-append-add}
use Prim.Native.Nat.{ℕ, zero, suc, ◌+◌, ◌*◌, ◌≤◌, ◌<◌, min}
use Rattle.laws.specs.Lists.{joined, tab}
use Rattle.laws.specs.Loops.{pad_to}
use Rattle.laws.proofs.Lists.{take_more, length_snoc, length-pad_to, pad_to_snoc, take-pad_to, tab_more, joined_snoc}
use Rattle.laws.proofs.Laid.{sets_append}

module _ {A : Type 0} (f : ℕ → List A) (w : ℕ) (wide : (k : ℕ) → length (f k) ≡ w) where
  pub length-rows : (lo n : ℕ) → length (joined (tab f lo n)) ≡ n * w
  length-rows lo zero = sym (zero-mul w)
  length-rows lo (suc n) =
      length-append (f lo) (joined (tab f (suc lo) n)) ∙ rw (wide lo, length-rows (suc lo) n, suc-mul n w) (omega arith)

  pub get_d_rows : (lo n t k : ℕ) (d : A) → t < n → k < w → get_or (joined (tab f lo n)) (t * w + k) d ≡ get_or (f (lo + t)) k d
  get_d_rows lo zero t k d h l = absurd (not-suc-le-zero h)
  get_d_rows lo (suc n) zero k d h l =
      rw (zero-mul w, zero-add k, add-zero lo) (get_or-append (f lo) (joined (tab f (suc lo) n)) d k (rw (wide lo) l))
  get_d_rows lo (suc n) (suc t) k d h l =
      let e : suc t * w + k ≡ length (f lo) + (t * w + k) = rw (suc-mul t w, wide lo) (omega arith) in
      let m : suc lo + t ≡ lo + suc t = omega arith in
      rw (e, get_or-append-add (f lo) (joined (tab f (suc lo) n)) (t * w + k) d, ← m) (get_d_rows (suc lo) n t k d (le_of_suc-le-suc h) l)

module _ {A : Type 0} (n : ℕ) (z : A) where
  -- a list is stored behind what was laid in
  pub sets_pad_to : (l m : List A) → sets (pad_to n z l) (length l) m ≡ pad_to n z (l ++ m)
  sets_pad_to l [] = ap (pad_to n z) (sym (append-nil l))
  sets_pad_to l (x ∷ m) =
      rw (← pad_to_snoc n z l x) (ap (λ (k : ℕ). sets (pad_to n z (l ++ (x ∷ []))) k m) (next l) ∙ sets_pad_to (l ++ (x ∷ [])) m ∙ ap (pad_to n z) (append_assoc l (x ∷ []) m))
    where
      next : (l : List A) → suc (length l) ≡ length (l ++ (x ∷ []))
      next l = let e : length (l ++ (x ∷ [])) ≡ length l + 1 = length_snoc l x in omega arith

  pub pad_to-full : (l : List A) → length l ≡ n → pad_to n z l ≡ l
  pad_to-full l e =
      sym (take_all (length l) (pad_to n z l) (rw (length-pad_to n z l) (omega arith))) ∙ take-pad_to n z l (omega arith)

-- what is filled up to less is filled up to more
pub pad_to-again : {A : Type 0} (n m : ℕ) (z : A) (l : List A) → length l ≤ m → m ≤ n → pad_to n z (pad_to m z l) ≡ pad_to n z l
pad_to-again n zero z [] h v = refl
pad_to-again n zero z (x ∷ l) h v = absurd (not-suc-le-zero h)
pad_to-again zero (suc m) z l h v = absurd (not-suc-le-zero v)
pad_to-again (suc n) (suc m) z [] h v = ap (λ (r : List _). z ∷ r) (pad_to-again n m z [] (omega arith) (le_of_suc-le-suc v))
pad_to-again (suc n) (suc m) z (x ∷ l) h v =
    ap (λ (r : List _). x ∷ r) (pad_to-again n m z l (le_of_suc-le-suc h) (le_of_suc-le-suc v))

pub pad_to-behind : {A : Type 0} (n m : ℕ) (z : A) (l r : List A) → length r ≤ m → length l + m ≤ n → pad_to n z (l ++ pad_to m z r) ≡ pad_to n z (l ++ r)
pad_to-behind n m z [] r h v = pad_to-again n m z r h (omega arith)
pad_to-behind zero m z (x ∷ l) r h v = absurd (omega arith)
pad_to-behind (suc n) m z (x ∷ l) r h v = ap (λ (q : List _). x ∷ q) (pad_to-behind n m z l r h (omega arith))

-- one row more: its elements are stored behind those before
pub row_more : {A : Type 0} (room w : ℕ) (z : A) (f : ℕ → List A) (t : ℕ) → length (f t) ≤ w → t * w + w ≤ room
    → sets (pad_to room z (joined (tab (λ k. pad_to w z (f k)) 0 t))) (t * w) (f t) ≡ pad_to room z (joined (tab (λ k. pad_to w z (f k)) 0 (t + 1)))
row_more {A} room w z f t h v =
    ap (λ (k : ℕ). sets (pad_to room z before) k (f t)) (sym long) ∙ sets_pad_to room z before (f t)
    ∙ sym (ap (pad_to room z) (ap joined (tab_more row 0 t) ∙ joined_snoc (tab row 0 t) (row (0 + t)) ∙ ap (λ (k : ℕ). before ++ row k) (zero-add t))
    ∙ pad_to-behind room w z before (f t) h (rw long v))
  where
    row : ℕ → List A
    row k = pad_to w z (f k)

    before : List A
    before = joined (tab row 0 t)

    long : length before ≡ t * w
    long = length-rows row w (λ k. length-pad_to w z (f k)) 0 t

-- all rows fill the array
pub rows_all : {A : Type 0} (n w : ℕ) (z : A) (f : ℕ → List A) → pad_to (n * w) z (joined (tab (λ k. pad_to w z (f k)) 0 n)) ≡ joined (tab (λ k. pad_to w z (f k)) 0 n)
rows_all n w z f = pad_to-full (n * w) z (joined (tab (λ k. pad_to w z (f k)) 0 n)) (length-rows (λ k. pad_to w z (f k)) w (λ k. length-pad_to w z (f k)) 0 n)

-- a part of a list is stored place by place
pub sets_more : {A : Type 0} (old : List A) (at : ℕ) (l : List A) (k : ℕ) (d : A) → k < length l → set (sets old at (take k l)) (at + k) (get_or l k d) ≡ sets old at (take (k + 1) l)
sets_more old at l k d h =
    let e : length (take k l) ≡ k = let m : length (take k l) ≡ min k (length l) = length-take k l in omega arith in
    sym (ap (sets old at) (take_more l k d h) ∙ sets_append old at (take k l) (get_or l k d ∷ []) ∙ ap (λ (j : ℕ). set (sets old at (take k l)) (at + j) (get_or l k d)) e)
