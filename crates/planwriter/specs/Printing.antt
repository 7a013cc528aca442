-- What printing a plan says, and what it leaves of the lent bytes (docs/RULES.md, section 19).
use Rattle.std.specs.Prelude.{◌≡◌, Bool, true, false, List, leb, length, Result, Ok, Err, ℕ}
use Rattle.std.proofs.lemmas.List.Edits.{sets}
use Rattle.laws.specs.Res.{Res, ok, refuse}
use Rattle.text.specs.Text.{is_short}
use Rattle.planwords.specs.PlanText.{plan_text}
use Rattle.units.specs.declared.Offset.{Offset}
use Rattle.planwriter.specs.declared.Unprinted.{Unprinted}
use Rattle.planwriter.specs.declared.Unprinted.TheVariants.{Refused, Needs, TooLong}

-- ---- the lines put

abbrev pub offset : ℕ → Offset
offset place = record { 0 = place }

abbrev pub lines_for : Res (List ℕ) → Result ℕ Offset
lines_for (ok text) = Ok (length text)
lines_for (refuse n place) = Err (offset place)

-- the bytes behind the lines of a whole plan; nothing is lent where the plan is refused, so nothing is left of it
abbrev pub MayPut : Res (List ℕ) → List ℕ → Type 0
MayPut (ok text) lent = Unit {0}
MayPut (refuse n place) lent = length lent ≡ 0

abbrev pub lines_left : Res (List ℕ) → List ℕ → List ℕ
lines_left (ok text) lent = sets lent 0 text
lines_left (refuse n place) lent = lent

-- ---- the text, where it fits

abbrev pub printing_if : Bool → ℕ → Result ℕ Unprinted
printing_if true n = Ok n
printing_if false n = Err (Needs n)

abbrev pub left_if : Bool → List ℕ → List ℕ → List ℕ
left_if true text lent = sets lent 0 text
left_if false text lent = lent

abbrev pub printing_of : Res (List ℕ) → List ℕ → Result ℕ Unprinted
printing_of (ok text) lent = printing_if (leb (length text) (length lent)) (length text)
printing_of (refuse n place) lent = Err (Refused (offset place))

abbrev pub left_of : Res (List ℕ) → List ℕ → List ℕ
left_of (ok text) lent = left_if (leb (length text) (length lent)) text lent
left_of (refuse n place) lent = lent

-- ---- a plan that is not longer than is read

abbrev pub printing_short : Bool → Res (List ℕ) → List ℕ → Result ℕ Unprinted
printing_short true printed lent = printing_of printed lent
printing_short false printed lent = Err TooLong

abbrev pub left_short : Bool → Res (List ℕ) → List ℕ → List ℕ
left_short true printed lent = left_of printed lent
left_short false printed lent = lent

unfoldable pub printing_for : List ℕ → List ℕ → Result ℕ Unprinted
printing_for plan lent = printing_short (is_short 65536 plan) (plan_text plan) lent

unfoldable pub left_by : List ℕ → List ℕ → List ℕ
left_by plan lent = left_short (is_short 65536 plan) (plan_text plan) lent
