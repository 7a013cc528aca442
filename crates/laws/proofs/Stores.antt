-- Stores: arrays filled by rules that agree, by a rule that changes nothing, by a rule that changes one place, and filled anew.
use mathlib.Core.Path.{◌≡◌, refl, sym, ap, ◌∙◌}
use mathlib.Core.Bool.{Bool, true, false, cond}
use mathlib.Core.List.{List}
use native.Mathlib.Numerals.{add-one}
use native.Mathlib.Omega.{arith}
use borrow.Author.Tests.{eqb-true, eqb-false, ltb-true, ltb-false}
use lib.Dec.{eqb, ltb}
use lib.ListN.{length, get_or, set, length-set, get_or-eq_default}
use lib.Seq.{ext_get_or, get_or-set_same, get_or-set_other}
use Prim.Native.Nat.{ℕ, zero, suc, ◌≤◌, ◌<◌}
use Rattle.laws.specs.Loops.{stores}
use Rattle.laws.proofs.Loops.{stores-kept, stores_at, stores_beyond, length-stores}

module _ {A : Type 0} (old : List A) where
  pub stores_same : (f g : ℕ → A) (n : ℕ) → ((k : ℕ) → k < n → f k ≡ g k) → stores old f n ≡ stores old g n
  stores_same f g zero h = refl
  stores_same f g (suc n) h = rw (stores_same f g n (λ k w. h k (omega arith)), h n (omega arith))

  pub stores-idle : (f : ℕ → A) (n : ℕ) (d : A) → ((k : ℕ) → k < n → f k ≡ get_or old k d) → old ≡ stores old f n
  stores-idle f zero d h = refl
  stores-idle f (suc n) d h =
      stores-idle f n d (λ k w. h k (omega arith)) ∙ stores-kept old f n d (h n (omega arith)) ∙ ap (stores old f) (add-one n)

  pub stores-within : (f : ℕ → A) (n : ℕ) (d : A) {r : List A} → length old ≡ n → r ≡ stores old f n → (k : ℕ) → k < n → get_or r k d ≡ f k
  stores-within f n d size e k w = ap (λ l. get_or l k d) e ∙ stores_at old f n k d w (omega arith)

  -- read at any place, where the rule gives behind the array what a read there gives
  pub stores-read : (f : ℕ → A) (n k : ℕ) (d : A) → length old ≡ n → (n ≤ k → f k ≡ d) → get_or (stores old f n) k d ≡ f k
  stores-read f n k d size h = split (ltb k n) refl
    where
      split : (b : Bool) → ltb k n ≡ b → get_or (stores old f n) k d ≡ f k
      split true e = let w : k < n = ltb-true k n e in stores_at old f n k d w (omega arith)
      split false e =
          let w : n ≤ k = ltb-false k n e in
          stores_beyond old f n k d w ∙ get_or-eq_default old d (rw size w) ∙ sym (h w)

  -- of an array with a place for each number below n
  pub stores_one : (f : ℕ → A) (n t : ℕ) (v d : A) → length old ≡ n → ((k : ℕ) → k < n → f k ≡ cond (eqb t k) v (get_or old k d))
      → set old t v ≡ stores old f n
  stores_one f n t v d size h = ext_get_or d (set old t v) (stores old f n) (length-set old t v ∙ sym (length-stores old f n)) at_each
    where
      changed : (i : ℕ) (b : Bool) → eqb t i ≡ b → i < length old → get_or (set old t v) i d ≡ cond b v (get_or old i d)
      changed i true e w = rw (eqb-true t i e) (get_or-set_same old i v d w)
      changed i false e w = get_or-set_other old t i v d (λ q. eqb-false t i e (sym q))

      at_each : (i : ℕ) → i < length (set old t v) → get_or (set old t v) i d ≡ get_or (stores old f n) i d
      at_each i w =
          let u : i < length old = rw (length-set old t v) at w in
          let m : i < n = omega arith in
          changed i (eqb t i) refl u ∙ sym (h i m) ∙ sym (stores_at old f n i d m (omega arith))

-- ---- a place for each number below n

module _ {A : Type 0} (d : A) (n : ℕ) (old : List A) (size : length old ≡ n) where
  -- what the places held before does not matter
  pub stores_anew : (f : ℕ → A) (a : List A) → length a ≡ n → stores a f n ≡ stores old f n
  stores_anew f a e =
      ext_get_or d (stores a f n) (stores old f n) (length-stores a f n ∙ e ∙ sym (length-stores old f n ∙ size))
      (λ k w. let v : k < n = omega (arith, length-stores a f n) in
      stores_at a f n k d v (omega arith) ∙ sym (stores_at old f n k d v (omega arith)))

  -- one place changed
  pub stores-changed : (f g : ℕ → A) {a : List A} (t : ℕ) (v : A) → a ≡ stores old f n → ((k : ℕ) → k < n → g k ≡ cond (eqb t k) v (f k))
      → set a t v ≡ stores old g n
  stores-changed f g {a} t v e h =
      let long : length a ≡ n = ap (λ (l : List A). length l) e ∙ length-stores old f n ∙ size in
      stores_one a g n t v d long
      (λ k w. h k w ∙ ap (λ (x : A). cond (eqb t k) v x) (sym (stores-within old f n d size e k w)))
      ∙ stores_anew g a long
