-- docs/RULES.md, section 16: a plan whose bus is of kind 1, its twin with kind 9, and an answer as the twin gets it.
use Rattle.std.specs.Prelude.{cond, List, ◌∷◌, ◌++◌, eqb, ℕ, suc}
use Rattle.laws.specs.Res.{Res, ok, refuse}
use Rattle.rules.specs.Limits.{plain_byte_bits}

-- Rule 16.1: a plan by its bus record's body and by what stands behind it; its twin says the bits that kind 1 means.
unfoldable pub plain_plan : List ℕ → List ℕ → List ℕ
plain_plan body rest = 1 ∷ body ++ rest

unfoldable pub twin_plan : List ℕ → List ℕ → List ℕ
twin_plan body rest = 9 ∷ body ++ (plain_byte_bits ∷ rest)

-- Rule 16.2: the same answer, but refusal 1 a byte later: its place is an offset.
abbrev pub a_byte_later : {A : Type 0} → Res A → Res A
a_byte_later (ok a) = ok a
a_byte_later (refuse n p) = refuse n (cond (eqb n 1) (suc p) p)
