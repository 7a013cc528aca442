-- A tick's answer, in the numbers that C has, is what the rules say.
use mathlib.Core.Path.{◌≡◌, refl, sym, ap, ◌∙◌}
use Prim.Native.Nat.{ℕ}
use Rattle.laws.specs.Res.{Res, ok, refuse}
use Rattle.laws.proofs.Res.{refuse≢ok, ok_injective, refuse-number, refuse-place}
use Rattle.rules.specs.Station as rules
use Rattle.std.specs.Prelude.{Ok, Err}
use Rattle.station.specs.declared.Station.{Station}
use Rattle.station.specs.declared.Ticked as station
use Rattle.station.specs.Answers as said
use Rattle.station.specs.Answers.{Answers, Said, outcome, station_after}
use Rattle.station.specs.Memory.{ruled}
use Rattle.station.specs.Parts.{Completes}
use Rattle.station.proofs.Plays.{leaves}
use Rattle.station.specs.declared.BeforeNodes.{BeforeNodes}
use Rattle.stationruns.specs.declared.Input.{Input}
use Rattle.outward.specs.declared.TickAnswer.{TickAnswer}
use Rattle.outward.specs.Answers.{answer_of}
use Rattle.outward.specs.Numbers.{CompletesFor, answer_said, row_for, row_said, row_started, tick_by, tick_said}

row-started : (w : rules.Started) → row_said (said.row_said w) ≡ row_started w
row-started (rules.control w) = refl
row-started (rules.message w) = refl
row-started rules.nothing = refl

answer-started : (w : rules.Started) → answer_said (said.row_said w) ≡ answer_of (ok tt)
answer-started (rules.control w) = refl
answer-started (rules.message w) = refl
answer-started rules.nothing = refl

-- ---- accepted

accepted : (s : Said) (t x : station.Ticked) → outcome s t ≡ ok x → t ≡ x
accepted (Ok row) t x e = ok_injective e
accepted (Err y) t x e = refuse≢ok e

-- ---- refused

module _ (t : station.Ticked) (n p : ℕ) where
  refused-answer : (s : Said) → outcome s t ≡ refuse n p → answer_said s ≡ answer_of (refuse n p)
  refused-answer (Ok row) e = refuse≢ok (sym e)
  refused-answer (Err x) e = rw (refuse-number e, refuse-place e)

  refused-row : (s : Said) → outcome s t ≡ refuse n p → row_said s ≡ row_for 0 0 0 0 0
  refused-row (Ok row) e = refuse≢ok (sym e)
  refused-row (Err x) e = refl

answer-is : (st : Station) (rule : Res rules.Ticked) (t : station.Ticked) → Answers st rule t → tick_said t.said ≡ tick_by rule
answer-is st (ok x) t h =
    ap (λ (r : station.Ticked). tick_said r.said) (accepted t.said t _ h.says) ∙ rw (row-started x.row, answer-started x.row)
answer-is st (refuse n p) t h = rw (refused-answer t n p t.said h.says, refused-row t n p t.said h.says)

-- ---- the parts of an answer, computed one by one

pub completes_for : {st : Station} {input : Input} {w : Said} {t : BeforeNodes} {a : TickAnswer}
    → Completes st input w t → a ≡ tick_said w → CompletesFor st (ruled st input) (record { tick = a; part = t })
completes_for {st} first made =
    record {
      idle = λ i. (made ∙ answer-is st _ _ (first.idle i), leaves st _ _ (first.idle i));
      busy = λ i. (made ∙ answer-is st _ _ (first.busy i), leaves st _ _ (first.busy i));
    }
