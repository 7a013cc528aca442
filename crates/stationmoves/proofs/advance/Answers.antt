-- The rows found by `row_with` at the rest of the clock are put into what is said and what is played (`advanced_made`).
use mathlib.Core.Path.{ap, ◌∙◌}
use Rattle.rules.specs.Station.{row_with}
use Rattle.stationbus.specs.Bus.{number_at}
use Rattle.stationmoves.specs.Moving.{said_by, play_after, advanced_by}
use Rattle.stationmoves.proofs.Ways.{advanced_made}
use Rattle.stationmoves.proofs.advance.Goals as goal

pub returns : goal.returns
unfolding advanced_by
returns c =
    let a = c.args in
    let rows = a.fixed.controls in record {
      value = advanced_made (said_by rows a.pair_tasks.now a.pair_deadlines.now a.pair_starts.now a.pair_stops.now)
          (λ n x y. play_after a.input a.fixed a.play n x y a.ends.now a.pair_tasks.now a.pair_starts.now a.pair_modes.now)
          c.rest.ensures
          ((rw c.from.ensures at c.row_with-control.ensures) ∙ ap (row_with (number_at rows.starts) rows.count) c.rest.ensures)
          ((rw c.from-2.ensures at c.row_with-first.ensures) ∙ ap (row_with (number_at a.pair_starts.now) a.fixed.pairs) c.rest.ensures)
          c.started-row.ensures c.play_after-next.ensures.value;
      reads = c.play_after-next.ensures.reads;
    }
