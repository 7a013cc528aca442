-- No second result and no second arrays hand on of a plan and a table what the rules say of them.
use mathlib.Core.Path.{◌≡◌, sym, ap, ◌∙◌}
use mathlib.Core.List.{List}
use Prim.Native.Nat.{ℕ}
use Rattle.laws.specs.Res.{Res}
use Rattle.laws.proofs.Res.{refuse≢ok}
use Rattle.rules.specs.Checker.{Passed}
use Rattle.std.specs.Prelude.{Result, Ok, Err}
use Rattle.answers.specs.declared.Refusal.{Refusal}
use Rattle.answers.proofs.Said.{said-once}
use Rattle.checker.specs.declared.Passing.{Passing}
use Rattle.checker.specs.Passing.{Passes, heard_passing, passing_beside}

-- an answer is what it says in the rules' words, with what is handed on
answer-once : (a b : Result Passing Refusal) → heard_passing a ≡ heard_passing b → (passing_beside a).plan ≡ (passing_beside b).plan
    → (passing_beside a).line ≡ (passing_beside b).line → a ≡ b
answer-once (Ok p) (Ok q) e plan line = let one : p ≡ record { plan = q.plan; line = q.line } = rw (← plan, ← line) in ap Ok one
answer-once (Ok p) (Err y) e plan line = refuse≢ok (sym e)
answer-once (Err x) (Ok q) e plan line = refuse≢ok e
answer-once (Err x) (Err y) e plan line = ap Err (said-once x y e)

pub passes-once : (a b : Result Passing Refusal) {tasks deadlines starts tasks' deadlines' starts' : List ℕ} (rule : Res Passed)
    → Passes a tasks deadlines starts rule → Passes b tasks' deadlines' starts' rule
    → (a ≡ b) × (tasks ≡ tasks') × (deadlines ≡ deadlines') × (starts ≡ starts')
passes-once a b rule p q = (
  answer-once a b (p.answered ∙ sym q.answered) (p.plan ∙ sym q.plan) (p.line ∙ sym q.line),
  p.tasks ∙ sym q.tasks,
  p.deadlines ∙ sym q.deadlines,
  p.starts ∙ sym q.starts,
)
