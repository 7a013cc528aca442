-- How a program ends: the number that it gives back to whoever called it.
use Rattle.std.specs.Prelude.{Bool, true, false, ℕ, Result, Ok, Err}
use Rattle.laws.specs.Res.{Res, ok, refuse}
use Rattle.manners.specs.declared.Failed.{Failed}
use Rattle.manners.specs.declared.Status.{Status}
use Rattle.manners.specs.declared.Status.TheVariants.{Done, Refused}

-- a result was written
abbrev pub done : ℕ
done = 0

-- a refusal, or that a file is too long or cannot be understood
abbrev pub refused : ℕ
refused = 1

abbrev pub status_of : {A : Type 0} → Res A → ℕ
status_of (ok a) = done
status_of (refuse n p) = refused

-- Rule 1.5: a file that is longer than is read is refused.
abbrev pub unless_long_status : Bool → ℕ → ℕ
unless_long_status true status = status
unless_long_status false status = refused

-- the number of each way to end with an answer
abbrev pub number_of : Status → ℕ
number_of Done = done
number_of Refused = refused

-- 2 where there was none
abbrev pub ending_of : Result Status Failed → ℕ
ending_of (Ok status) = number_of status
ending_of (Err failed) = 2
