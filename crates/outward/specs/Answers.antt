-- An answer of the rules as a number and a place; number 0 where nothing is refused.
use Rattle.std.specs.Prelude.{ℕ}
use Rattle.laws.specs.Res.{Res, ok, refuse}
use Rattle.outward.specs.declared.Answer.{Answer}

abbrev pub answer_of : Res (Unit {0}) → Answer
answer_of (ok u) = record { number = 0; place = 0 }
answer_of (refuse n p) = record { number = n; place = p }

-- with the length of what was made as the place
abbrev pub made_of : Res ℕ → Answer
made_of (ok n) = record { number = 0; place = n }
made_of (refuse n p) = record { number = n; place = p }
