-- Rules in order, each asked at its places: what it means that all are kept, and which fault is the first.
use Rattle.std.specs.Prelude.{◌≡◌, List, [], ◌∷◌, ◌⊎◌, ℕ, suc, ◌+◌, ◌<◌}

-- A rule: its number, the record of its first place, how many places it has, and what it asks of each.
pub record Rule : Type 1 where
  pub number : ℕ
  pub first : ℕ
  pub places : ℕ
  pub asks : ℕ → Type 0

-- a rule with one place
abbrev pub once : ℕ → ℕ → Type 0 → Rule
once number place asked = record { number = number; first = place; places = 1; asks = λ k. asked }

-- every place keeps it
pub record IsKept (r : Rule) : Type 0 where
  pub each : (k : ℕ) → k < r.places → r.asks k

-- number n at record p: the lowest place that breaks the rule
pub record BreaksAt (r : Rule) (n p : ℕ) : Type 0 where
  pub place : ℕ
  pub within : place < r.places
  pub lowest : (j : ℕ) → j < place → r.asks j
  pub broken : r.asks place → ⊥
  pub its_number : r.number ≡ n
  pub its_record : r.first + place ≡ p

-- every rule is kept
abbrev pub AllKept : List Rule → Type 0
AllKept [] = Unit
AllKept (r ∷ rs) = IsKept r × AllKept rs

-- number n at record p: the first rule that is broken, those before it kept
abbrev pub FirstFault : List Rule → ℕ → ℕ → Type 0
FirstFault [] n p = ⊥
FirstFault (r ∷ rs) n p = BreaksAt r n p ⊎ (IsKept r × FirstFault rs n p)

-- the rules have the numbers n, n + 1, ..
abbrev pub CountUp : ℕ → List Rule → Type 0
CountUp n [] = Unit
CountUp n (r ∷ rs) = (r.number ≡ n) × CountUp (suc n) rs
