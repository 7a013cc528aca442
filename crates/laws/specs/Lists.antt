-- Lists: what the definitions of the rules are made of. Each says in a line what it gives.
use Rattle.std.specs.Prelude.{Bool, true, false, cond, not, ◌&&◌, ◌||◌, List, [], ◌∷◌, ◌++◌, map, length, get_or, take, ℕ, zero, suc}
use Rattle.std.proofs.Math.Option.{Option, none, some}

-- one place further on
abbrev pub next : Option ℕ → Option ℕ
next none = none
next (some i) = some (suc i)

-- here where the test fails, else what the rest says
abbrev pub or_next : Bool → Option ℕ → Option ℕ
or_next true r = next r
or_next false r = some zero

module _ {A : Type 0} where
  -- x in front where it is wanted
  abbrev pub cons_if : Bool → A → List A → List A
  cons_if true x xs = x ∷ xs
  cons_if false x xs = xs

  -- the elements that pass the test, in their order
  abbrev pub keep : (A → Bool) → List A → List A
  keep p [] = []
  keep p (x ∷ xs) = cons_if (p x) x (keep p xs)

  -- some element passes
  abbrev pub any : (A → Bool) → List A → Bool
  any p [] = false
  any p (x ∷ xs) = p x || any p xs

  -- every element passes
  abbrev pub all : (A → Bool) → List A → Bool
  all p [] = true
  all p (x ∷ xs) = p x && all p xs

  -- the place of the first element that fails its test
  abbrev pub first_bad : (A → Bool) → List A → Option ℕ
  first_bad p [] = none
  first_bad p (x ∷ xs) = or_next (p x) (first_bad p xs)

  -- no earlier element is like the k-th; d stands for one that is not there
  abbrev pub is_fresh : (A → A → Bool) → A → List A → ℕ → Bool
  is_fresh like d l k = not (any (like (get_or l k d)) (take k l))

  -- the place of the first element that passes its test
  abbrev pub first_with : (A → Bool) → List A → Option ℕ
  first_with p [] = none
  first_with p (x ∷ xs) = cond (p x) (some zero) (next (first_with p xs))

  -- the elements one list after the other
  abbrev pub joined : List (List A) → List A
  joined [] = []
  joined (xs ∷ xss) = xs ++ joined xss

  -- the last element, or d
  abbrev pub last_d : List A → A → A
  last_d [] d = d
  last_d (x ∷ xs) d = last_d xs x

-- f lo, f (lo + 1), .., n of them
abbrev pub tab : {A : Type 0} → (ℕ → A) → ℕ → ℕ → List A
tab f lo zero = []
tab f lo (suc n) = f lo ∷ tab f (suc lo) n

-- 0, 1, .., n - 1
abbrev pub up_to : ℕ → List ℕ
up_to n = tab (λ k. k) 0 n

-- the elements whose numbers pass the test, in their order; d stands for one that is not there
abbrev pub keep_at : {A : Type 0} → (ℕ → Bool) → A → List A → List A
keep_at p d l = map (λ k. get_or l k d) (keep p (up_to (length l)))
