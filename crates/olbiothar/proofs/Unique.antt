-- No second answer, no second list of lent rows, no second buffer and no second station say what the rules say.
use mathlib.Core.Path.{◌≡◌, sym, ◌∙◌}
use mathlib.Core.List.{List}
use Prim.Native.Nat.{ℕ}
use Rattle.units.specs.declared.Frame.{Frame}
use Rattle.rows.proofs.Laid.{rows-once}
use Rattle.laws.specs.Res.{Res}
use Rattle.rules.specs.Station as rules
use Rattle.station.specs.declared.Station.{Station}
use Rattle.stationruns.specs.declared.Input.{Input}
use Rattle.outward.specs.declared.Answer.{Answer}
use Rattle.outward.specs.declared.TickAnswer.{TickAnswer}
use Rattle.olbiothar.specs.Lent.{MakesRows, ChecksRows}
use Rattle.olbiothar.specs.Playing.{BeginsIn, Ticks}

pub make-once : (a b : Answer) (edition : ℕ) (plan : List ℕ) (before rows rows' : List Frame) (old buffer buffer' : List ℕ)
    → MakesRows a edition plan before rows old buffer → MakesRows b edition plan before rows' old buffer' → (a ≡ b) × (rows ≡ rows') × (buffer ≡ buffer')
make-once a b edition plan before rows rows' old buffer buffer' p q =
    (p.answered ∙ sym q.answered, rows-once rows rows' (p.left ∙ sym q.left), p.written ∙ sym q.written)

pub check-once : (a b : Answer) (plan table : List ℕ) (before rows rows' : List Frame)
    → ChecksRows a plan table before rows → ChecksRows b plan table before rows' → (a ≡ b) × (rows ≡ rows')
check-once a b plan table before rows rows' p q =
    (p.answered ∙ sym q.answered, rows-once rows rows' (p.left ∙ sym q.left))

pub begin-once : (a b : Answer) (rule : Res rules.Begun) (before after after' : Station)
    → BeginsIn rule before a after → BeginsIn rule before b after' → (a ≡ b) × (after ≡ after')
begin-once a b rule before after after' p q = (p.answers ∙ sym q.answers, p.leaves ∙ sym q.leaves)

pub tick-once : (a b : TickAnswer) (input : Input) (before after after' : Station)
    → Ticks before input a after → Ticks before input b after' → (a ≡ b) × (after ≡ after')
tick-once a b input before after after' p q = (p.answers ∙ sym q.answers, p.leaves ∙ sym q.leaves)
