-- No second result and no second arrays of frames say of a plan what the rules say of it.
use mathlib.Core.Path.{◌≡◌, sym, ap, ◌∙◌}
use mathlib.Core.List.{List}
use Prim.Native.Nat.{ℕ}
use Rattle.laws.specs.Res.{Res}
use Rattle.laws.proofs.Res.{refuse≢ok}
use Rattle.rules.specs.Plan.{Plan}
use Rattle.answers.proofs.Said.{said-once}
use Rattle.std.specs.Prelude.{Result, Ok, Err}
use Rattle.answers.specs.declared.Refusal.{Refusal}
use Rattle.line.specs.declared.Line.{Line}
use Rattle.line.specs.Line.{Drawing, line_in}
use Rattle.line.specs.Laying.{Lays, heard_line, line_beside}

-- an answer is what it says in the rules' words, with its line
answer-once : (x y : Result Line Refusal) → heard_line x ≡ heard_line y → line_beside x ≡ line_beside y → x ≡ y
answer-once (Ok k) (Ok l) e f = ap Ok f
answer-once (Ok k) (Err y) e f = refuse≢ok (sym e)
answer-once (Err x) (Ok l) e f = refuse≢ok e
answer-once (Err x) (Err y) e f = ap Err (said-once x y e)

pub lays_once : (a b : Result Line Refusal) {tasks releases deadlines tasks' releases' deadlines' : List ℕ} (rule : Res Plan)
    → Lays a tasks releases deadlines rule → Lays b tasks' releases' deadlines' rule
    → (a ≡ b) × (tasks ≡ tasks') × (releases ≡ releases') × (deadlines ≡ deadlines')
lays_once a b rule p q =
    let same = p.left ∙ sym q.left in (
      answer-once a b (p.answered ∙ sym q.answered) (ap line_in same),
      ap (λ (x : Drawing). x.tasks) same,
      ap (λ (x : Drawing). x.releases) same,
      ap (λ (x : Drawing). x.deadlines) same,
    )
