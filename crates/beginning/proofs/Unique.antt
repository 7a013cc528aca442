-- No second beginning says of two files and the starting places what the rules say of them.
use mathlib.Core.Path.{◌≡◌, refl, sym, ap, ◌∙◌}
use Rattle.laws.specs.Res.{Res}
use Rattle.laws.proofs.Res.{refuse≢ok}
use Rattle.answers.proofs.Said.{said-once}
use Rattle.rules.specs.Station as rules
use Rattle.station.specs.declared.Station.{Station}
use Rattle.answers.specs.declared.Refusal.{Refusal}
use Rattle.std.specs.Prelude.{Result, Ok, Err}
use Rattle.starting.specs.declared.Begun.{Begun}
use Rattle.beginning.specs.Begins.{Begins}
use Rattle.answers.specs.Answered.{judged}

judged-once : (x y : Result (Unit {0}) Refusal) → judged x ≡ judged y → x ≡ y
judged-once (Ok u) (Ok v) e = refl
judged-once (Ok u) (Err y) e = refuse≢ok (sym e)
judged-once (Err x) (Ok v) e = refuse≢ok e
judged-once (Err x) (Err y) e = ap Err (said-once x y e)

pub begins-once : (a b : Begun) (rule : Res rules.Begun) → Begins a rule → Begins b rule → a ≡ b
begins-once a b rule p q =
    let answers : a.answer ≡ b.answer = judged-once a.answer b.answer (p.answered ∙ sym q.answered) in
    let stations : a.station ≡ b.station = p.left ∙ sym q.left in
    ap {B = Begun} (λ (x : Result (Unit {0}) Refusal). record { answer = x; station = a.station }) answers
    ∙ ap {B = Begun} (λ (x : Station). record { answer = b.answer; station = x }) stations
