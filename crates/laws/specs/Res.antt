-- Answers: a value, or a refusal with its number and its place.
use Rattle.std.specs.Prelude.{Bool, true, false, ℕ, ◌+◌}
use Rattle.std.proofs.Math.Option.{Option, none, some}

pub data Res (A : Type 0) : Type 0 where
  ok : A → Res A
  refuse : ℕ → ℕ → Res A

module _ {A B : Type 0} where
  -- go on with the value, or keep the refusal
  abbrev pub ◌>>=◌ : Res A → (A → Res B) → Res B
  ◌>>=◌ (ok a) f = f a
  ◌>>=◌ (refuse n p) f = refuse n p

  -- the same, where the value does not matter
  abbrev pub ◌>>◌ : Res A → Res B → Res B
  ◌>>◌ (ok a) r = r
  ◌>>◌ (refuse n p) r = refuse n p

-- refusal n at p unless the test passes
abbrev pub unless : ℕ → ℕ → Bool → Res (Unit {0})
unless n p true = ok tt
unless n p false = refuse n p

-- refusal n at the place found, counted on from k; nothing found: none
abbrev pub at : ℕ → ℕ → Option ℕ → Res (Unit {0})
at n k none = ok tt
at n k (some i) = refuse n (k + i)

-- the value found, or refusal n at p
abbrev pub given : {A : Type 0} → ℕ → ℕ → Option A → Res A
given n p none = refuse n p
given n p (some a) = ok a
