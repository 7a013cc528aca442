-- No second result says of a table what the rules say of it.
use mathlib.Core.Path.{◌≡◌, refl, sym, ap, ◌∙◌}
use Rattle.laws.specs.Res.{Res}
use Rattle.laws.proofs.Res.{refuse≢ok}
use Rattle.rules.specs.Checker as rules
use Rattle.answers.proofs.Said.{said-once}
use Rattle.rows.specs.Rows.{Rows}
use Rattle.std.specs.Prelude.{Result, Ok, Err}
use Rattle.answers.specs.declared.Refusal.{Refusal}
use Rattle.checked.specs.Checking.{Checked, Checks}
use Rattle.answers.specs.Answered.{judged as heard}

pub heard-once : (x y : Result (Unit {0}) Refusal) → heard x ≡ heard y → x ≡ y
heard-once (Ok x) (Ok y) e = refl
heard-once (Ok x) (Err y) e = refuse≢ok (sym e)
heard-once (Err x) (Ok y) e = refuse≢ok e
heard-once (Err x) (Err y) e = ap Err (said-once x y e)

pub checks_once : (a b : Checked) (rule : Res rules.Passed) → Checks a rule → Checks b rule → a ≡ b
checks_once a b rule p q =
    let answers : a.answer ≡ b.answer = heard-once a.answer b.answer (p.answered ∙ sym q.answered) in
    let rows : a.rows ≡ b.rows = p.left ∙ sym q.left in
    ap {B = Checked} (λ (x : Result (Unit {0}) Refusal). record { answer = x; rows = a.rows }) answers
    ∙ ap {B = Checked} (λ (x : Rows). record { answer = b.answer; rows = x }) rows
