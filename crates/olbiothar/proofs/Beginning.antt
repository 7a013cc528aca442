-- A beginning in place is what the rules say: the station begins exactly where nothing is refused.
use mathlib.Core.Path.{◌≡◌, refl, sym}
use mathlib.Core.Bool.{true, false}
use Rattle.std.specs.Prelude.{Result, Ok, Err, is_ok}
use Rattle.laws.specs.Res.{Res, ok, refuse}
use Rattle.laws.proofs.Lists.{true-false}
use Rattle.laws.proofs.Res.{refuse≢ok}
use Rattle.rules.specs.Station as rules
use Rattle.starting.specs.declared.Begun as beginning
use Rattle.beginning.specs.Begins.{Begins, station_for, verdict}
use Rattle.answers.specs.Answered.{judged}
use Rattle.answers.specs.declared.Refusal.{Refusal}
use Rattle.station.specs.declared.Station.{Station}
use Rattle.olbiothar.specs.Playing.{station_in}

left-begun : (rule : Res rules.Begun) (answer : Result (Unit {0}) Refusal) (before left : Station) → judged answer ≡ verdict rule
    → left ≡ station_for rule → is_ok answer ≡ true → left ≡ station_in before rule
left-begun (ok b) answer before left h e t = e
left-begun (refuse n p) (Ok u) before left h e t = refuse≢ok (sym h)
left-begun (refuse n p) (Err x) before left h e t = true-false (sym t)

left-refused : (rule : Res rules.Begun) (answer : Result (Unit {0}) Refusal) (before : Station) → judged answer ≡ verdict rule
    → is_ok answer ≡ false → before ≡ station_in before rule
left-refused (ok b) (Ok u) before h t = true-false t
left-refused (ok b) (Err x) before h t = refuse≢ok h
left-refused (refuse n p) answer before h t = refl

module _ (rule : Res rules.Begun) (b : beginning.Begun) (before : Station) (begins : Begins b rule) where
  pub begun-leaves : is_ok b.answer ≡ true → b.station ≡ station_in before rule
  begun-leaves t = left-begun rule b.answer before b.station begins.answered begins.left t

  pub refused-leaves : is_ok b.answer ≡ false → before ≡ station_in before rule
  refused-leaves t = left-refused rule b.answer before begins.answered t
