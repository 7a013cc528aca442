-- Behind the tests before it the last one decides (`last_test`); the others are found.
use mathlib.Core.Path.{sym, ◌∙◌}
use borrow.Author.Tests.{le-leb, lt-leb}
use Rattle.laws.proofs.Lists.{true-false}
use Rattle.stationrefusals.specs.Refusing.{state_test}
use Rattle.stationrefusals.proofs.Ways.{last_test}
use Rattle.stationrefusals.proofs.state_in_range.Goals as goal
use Rattle.stationrefusals.proofs.state_in_range.Goals.{then-play-fixed, else-play-fixed, then-plays, else-plays}

pub returns-then-boxes : goal.returns-then-boxes
unfolding state_test
returns-then-boxes c =
    elim c.if-plays.branch [
      | then-plays w ↦
          elim c.if-play-fixed.branch [
            | then-play-fixed v ↦
                last_test (le-leb c.args.play.clock.0 c.args.fixed.period.0 v.if-play-fixed.true) v.plays.ensures (sym v.value-is ∙ w.if-plays.true)
                w.boxes.ensures (sym w.value-is ∙ c.if-boxes.true) c.bytes_in_range.ensures
            | else-play-fixed v ↦ true-false (sym w.if-plays.true ∙ v.value-is ∙ lt-leb c.args.play.clock.0 c.args.fixed.period.0 v.if-play-fixed.false)
          ]
      | else-plays w ↦ true-false (sym c.if-boxes.true ∙ w.value-is ∙ w.if-plays.false)
    ]
