-- Plans as text in C's numbers (rules 19.6 and 20.8).
use Rattle.std.specs.Prelude.{Result, Ok, Err, ℕ}
use Rattle.planreader.specs.declared.Unread.{Unread}
use Rattle.planreader.specs.declared.Unread.TheVariants.{Needs, TooLong, Unreadable}
use Rattle.planreader.specs.Memory.{longest_text}
use Rattle.reasons.specs.Numbers.{reason_number}
use Rattle.planwriter.specs.declared.Unprinted.{Unprinted}
use Rattle.planwriter.specs.declared.Unprinted.TheVariants as unprinted
use Rattle.outward.specs.declared.Answer.{Answer}
use Rattle.olbiothar.specs.declared.texts.PlanAnswer.{PlanAnswer}

-- a plan that was printed: the text's length; where the records go wrong; the bytes needed; the bytes that are read
abbrev pub text_said : Result ℕ Unprinted → Answer
text_said (Ok length) = record { number = 0; place = length }
text_said (Err (unprinted.Refused place)) = record { number = 1; place = place.0 }
text_said (Err (unprinted.Needs bytes)) = record { number = 13; place = bytes }
text_said (Err unprinted.TooLong) = record { number = 61; place = 65536 }

-- a plan that was read from a text: its length; the line and the reason; the bytes needed; the bytes that are read
abbrev pub plan_said : Result ℕ Unread → PlanAnswer
plan_said (Ok length) = record { answer = record { number = 0; place = length }; reason = 0 }
plan_said (Err (Unreadable unreadable)) = record { answer = record { number = 60; place = unreadable.line }; reason = reason_number unreadable.why }
plan_said (Err (Needs bytes)) = record { answer = record { number = 13; place = bytes }; reason = 0 }
plan_said (Err TooLong) = record { answer = record { number = 61; place = longest_text }; reason = 0 }
