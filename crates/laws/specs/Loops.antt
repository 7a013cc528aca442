-- Loops: what an array holds after some stores, and a list laid into a fixed number of places.
use Rattle.std.specs.Prelude.{cond, List, [], ◌∷◌, ltb, set, ℕ, zero, suc}

module _ {A : Type 0} where
  -- the array after the stores f 0, .., f (n - 1) at the places 0, .., n - 1
  abbrev pub stores : List A → (ℕ → A) → ℕ → List A
  stores old f zero = old
  stores old f (suc n) = set (stores old f n) n (f n)

  -- the list cut, or filled up with z, to exactly n places
  abbrev pub pad_to : ℕ → A → List A → List A
  pad_to zero z l = []
  pad_to (suc n) z [] = z ∷ pad_to n z []
  pad_to (suc n) z (x ∷ l) = x ∷ pad_to n z l

-- a store into an array of `room` places; behind its end nothing is stored
abbrev pub placed : {A : Type 0} → ℕ → List A → ℕ → A → List A
placed room old k x = cond (ltb k room) (set old k x) old
