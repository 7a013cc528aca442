-- The answer is that of `begin`; the station behind it by the two ways of `begun-leaves` and `refused-leaves`.
use Rattle.std.proofs.Common.{◌∙◌, ap, sym}
use Rattle.outward.specs.Answers.{answer_of}
use Rattle.rules.specs.Station.{begin}
use Rattle.stationruns.specs.Inputs.{starting_at}
use Rattle.olbiothar.proofs.Beginning.{begun-leaves, refused-leaves}
use Rattle.olbiothar.proofs.olbiothar_begin.Goals as goal
use Rattle.olbiothar.proofs.olbiothar_begin.Goals.{then-is_ok, else-is_ok}

pub returns : goal.returns
returns c =
    let a = c.args in
    let rule = begin a.plan.now a.table.now (starting_at a.starting) in
    let begun = c.begin-begun in
    record {
      answers = c.from.ensures ∙ ap answer_of begun.ensures.answered;
      leaves =
          elim c.if-is_ok.branch [
            | then-is_ok w ↦ w.station-is ∙ begun-leaves rule begun.result a.station.now begun.ensures (sym c.is_ok.ensures.value ∙ w.if-is_ok.true)
            | else-is_ok w ↦ w.station-is ∙ refused-leaves rule begun.result a.station.now begun.ensures (sym c.is_ok.ensures.value ∙ w.if-is_ok.false)
          ];
    }
