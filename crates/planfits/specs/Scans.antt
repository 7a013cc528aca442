-- What the scans for the lowest place at fault give.
use Rattle.std.specs.Prelude.{Bool, true, false, List, ℕ, Option, None, Some}
use Rattle.std.proofs.Math.Option as definitions
use Rattle.std.proofs.Math.Option.{none}
use Rattle.laws.specs.Res.{Res, ok, refuse}
use Rattle.laws.specs.Lists.{first_bad}
use Rattle.rules.specs.Records.{Rec}

-- what was found before, else the n-th if it is bad
abbrev pub earlier_of : Option ℕ → Bool → ℕ → Option ℕ
earlier_of (Some k) good n = Some k
earlier_of None true n = None
earlier_of None false n = Some n

-- whether an answer is a value
abbrev pub is_ok : {A : Type 0} → Res A → Bool
is_ok (ok a) = true
is_ok (refuse n p) = false

-- the first of a file's records that fails a test
abbrev pub first_bad_of : (Rec → Bool) → Res (List Rec) → definitions.Option ℕ
first_bad_of test (ok rs) = first_bad test rs
first_bad_of test (refuse n p) = none

-- refusal 5 of the record that was found
abbrev pub unfit_of : Option ℕ → Res (Unit {0})
unfit_of None = ok tt
unfit_of (Some k) = refuse 5 k
