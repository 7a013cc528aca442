-- Tables by number that are made of things one by one: of what each gives, by its own number, or of marks at the numbers that they give.
use Rattle.std.specs.Prelude.{Bool, false, ◌||◌, ◌≡◌, List, get_or, length, ℕ, ◌<◌, eqb, Option, Some, None}
use Rattle.laws.specs.Lists.{any}

-- of what a thing may give, number k gets this
abbrev pub is_mark : Option ℕ → ℕ → Bool
is_mark None k = false
is_mark (Some n) k = eqb n k

module _ {A : Type 0} where
  -- the thing with number k gives f k
  pub record Gives {V : Type 0} (R : A → V → Type 0) (f : ℕ → V) (things : List A) : Type 0 where
    pub told : (i : ℕ) (d : A) (v : V) → i < length things → R (get_or things i d) v → v ≡ f i

  -- each thing marks the numbers that pass its test
  pub record Marks (R : A → Option ℕ → Type 0) (test : A → ℕ → Bool) (things : List A) : Type 0 where
    pub told : (i : ℕ) (d : A) (r : Option ℕ) → i < length things → R (get_or things i d) r → (k : ℕ) → test (get_or things i d) k ≡ is_mark r k

  -- what was marked before, and what some thing marks
  pub record IsMarked (test : A → ℕ → Bool) (old : List Bool) (things : List A) (new : List Bool) : Type 0 where
    pub places : length new ≡ length old
    pub at : (k : ℕ) → k < length old → get_or new k false ≡ (get_or old k false || any (λ x. test x k) things)
