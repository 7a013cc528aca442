-- No second reading says of a file what the rules say of it.
use mathlib.Core.Path.{◌≡◌, sym, ap, ◌∙◌}
use Rattle.std.specs.Prelude.{Result, Ok, Err}
use Rattle.laws.specs.Res.{Res}
use Rattle.laws.proofs.Res.{refuse≢ok}
use Rattle.rules.specs.Plan.{Plan}
use Rattle.answers.specs.declared.Refusal.{Refusal}
use Rattle.answers.proofs.Said.{said-once}
use Rattle.plan.specs.declared.Plan as memory
use Rattle.planrules.specs.Reading.{Reads, heard_reading, plan_beside}

-- an answer is what it says in the rules' words, with its plan
answer-once : (a b : Result memory.Plan Refusal) → heard_reading a ≡ heard_reading b → plan_beside a ≡ plan_beside b → a ≡ b
answer-once (Ok p) (Ok q) e plan = ap Ok plan
answer-once (Ok p) (Err y) e plan = refuse≢ok (sym e)
answer-once (Err x) (Ok q) e plan = refuse≢ok e
answer-once (Err x) (Err y) e plan = ap Err (said-once x y e)

pub reads-once : (a b : Result memory.Plan Refusal) (rule : Res Plan) → Reads a rule → Reads b rule → a ≡ b
reads-once a b rule p q = answer-once a b (p.answered ∙ sym q.answered) (p.left ∙ sym q.left)
