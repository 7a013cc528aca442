-- What is said of a tick is what the rules say of it.
use mathlib.Core.Path.{◌≡◌, refl, sym, ap}
use mathlib.Core.Bool.{Bool, true}
use mathlib.Core.List.{List, ◌++◌}
use Prim.Native.Nat.{ℕ}
use Rattle.laws.specs.Res.{Res, ok, refuse}
use Rattle.laws.proofs.Res.{ok_injective, refuse≢ok}
use Rattle.rules.specs.Station as rules
use Rattle.std.specs.Prelude.{Result, Ok, Err}
use Rattle.answers.specs.Refusals.{number_of, place_of}
use Rattle.answers.specs.Answered.{judged}
use Rattle.answers.specs.declared.Refusal.{Refusal}
use Rattle.answerlines.specs.Writing.{quiet_text, refusal_line, said_text, ticked_text}
use Rattle.text.specs.Text.{ascii, numbered_line, refused_line}
use Rattle.stationnodes.specs.declared.Node.{Node}
use Rattle.station.specs.Answers.{Answers, Said, outcome}
use Rattle.station.specs.declared.Station.{Station}
use Rattle.station.specs.declared.Ticked.{Ticked}
use Rattle.beginning.specs.Begins.{Begins, verdict}
use Rattle.starting.specs.declared.Begun.{Begun}
use Rattle.hearing.specs.Heard.{begun_by, has_begun, is_changed, is_fine, quiet_said, tick_text}
use Rattle.hearing.specs.declared.Heard.{Heard}
use Rattle.hearing.specs.declared.Stage.TheVariants.{Plays}

module _ (r : Ticked) where
  taken : (x : Ticked) (w : Said) → outcome w r ≡ ok x → r ≡ x
  taken x (Ok row) e = ok_injective e
  taken x (Err y) e = refuse≢ok e

  module _ (n p : ℕ) where
    refusal_same : (w : Said) → outcome w r ≡ refuse n p → (rows shows : Bool) (nodes : List Node) → said_text rows w shows nodes ≡ refused_line n p
    unfolding refusal_line
    refusal_same (Ok row) e rows shows nodes = refuse≢ok (sym e)
    refusal_same (Err why) e rows shows nodes =
        let a : number_of why ≡ n = cc in
        let b : place_of why ≡ p = cc in
        rw (a, b)

    quiet_refused : (k : ℕ) (w : Said) → outcome w r ≡ refuse n p → (rows shows : Bool) (nodes : List Node)
        → quiet_text k rows w shows nodes ≡ numbered_line (ascii "after ") k ++ refused_line n p
    unfolding quiet_text
    quiet_refused k (Ok row) e rows shows nodes = refuse≢ok (sym e)
    quiet_refused k (Err why) e rows shows nodes = rw (refusal_same (Err why) e rows shows nodes)

module _ (st : Station) (rows : Bool) {r : Ticked} where
  pub tick-text : (rule : Res rules.Ticked) → Answers st rule r → ticked_text rows r.said r.station.nodes ≡ tick_text rows st rule
  unfolding ticked_text
  tick-text (ok t) a = ap (λ (x : Ticked). ticked_text rows x.said x.station.nodes) (taken r _ r.said a.says)
  tick-text (refuse n p) a = refusal_same r n p r.said a.says rows true r.station.nodes

  pub quiet-text : (k : ℕ) (rule : Res rules.Ticked) → Answers st rule r
      → quiet_text k rows r.said (is_changed st.nodes r.station.nodes) r.station.nodes ≡ quiet_said k rows st rule
  quiet-text k (ok t) a =
      ap (λ (x : Ticked). quiet_text k rows x.said (is_changed st.nodes x.station.nodes) x.station.nodes) (taken r _ r.said a.says)
  quiet-text k (refuse n p) a = quiet_refused r n p k r.said a.says rows (is_changed st.nodes r.station.nodes) r.station.nodes

-- a beginning is fine where it begins
fine-begun : (answer : Result (Unit {0}) Refusal) (rule : Res rules.Begun) → judged answer ≡ verdict rule → is_fine answer ≡ has_begun rule
fine-begun (Ok _) (ok b) e = refl
fine-begun (Ok _) (refuse n p) e = refuse≢ok (sym e)
fine-begun (Err why) (ok b) e = refuse≢ok e
fine-begun (Err why) (refuse n p) e = refl

pub begun-heard : {r : Begun} (rule : Res rules.Begun) → Begins r rule → {fine : Bool} → fine ≡ is_fine r.answer
    → ◌≡◌ {A = Heard} (record { stage = Plays fine; station = r.station }) (begun_by rule)
begun-heard {r} rule b {fine} e = rw (e, fine-begun r.answer rule b.answered, b.left)
