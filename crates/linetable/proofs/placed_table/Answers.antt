-- Three exits: no room for a frame (`no_room-made`), a short buffer (`short-made`), and the table written (`written-made`).
use mathlib.Core.Path.{refl}
use Rattle.line.specs.Line.{drawing}
use Rattle.linetable.proofs.Ways.{few-frames, few-controls, tasks-long, deadlines-long, times_long, deadlines-rising, all_placed, no_room-made, short-made, written-made}
use Rattle.linetable.proofs.placed_table.Goals as goal

pub place_all-outcome-requires : goal.place_all-outcome-requires
place_all-outcome-requires c =
    let a = c.args in
    let line = drawing a.line a.tasks.now a.releases.now a.deadlines.now in
    record {
      count_le_most_frames = (few-frames line c.requires.stands, times_long line c.requires.stands);
      by_index = deadlines-rising line c.requires.stands;
      numbers_value = (refl, refl);
    }

pub table_length-needed-requires : goal.table_length-needed-requires
table_length-needed-requires c =
    let a = c.args in
    let line = drawing a.line a.tasks.now a.releases.now a.deadlines.now in
    (few-controls line c.requires.stands, few-frames line c.requires.stands)

pub returns-then-buf-needed : goal.returns-then-buf-needed
returns-then-buf-needed c =
    let a = c.args in
    let line = drawing a.line a.tasks.now a.releases.now a.deadlines.now in
    λ s. short-made line s _ (all_placed line s _ c.before-2.ensures c.place_all-outcome.ensures c.in_default.is)
    _ a.buf.now c.table_length-needed.ensures.0 c.if-buf-needed.true c.requires.starts_value

pub write_placed-requires : goal.write_placed-requires
write_placed-requires c =
    let a = c.args in
    let line = drawing a.line a.tasks.now a.releases.now a.deadlines.now in
    record {
      controls_le_most_nodes = (few-controls line c.requires.stands, few-frames line c.requires.stands);
      tasks_len = (tasks-long line c.requires.stands, deadlines-long line c.requires.stands);
    }

pub starts_by_number-requires : goal.starts_by_number-requires
starts_by_number-requires c =
    let a = c.args in
    let line = drawing a.line a.tasks.now a.releases.now a.deadlines.now in
    record { count_le_most_frames = few-frames line c.requires.stands; by_len = rw c.requires.starts_value refl }

pub returns : goal.returns
returns c =
    let a = c.args in
    let line = drawing a.line a.tasks.now a.releases.now a.deadlines.now in
    λ s. written-made line s _ (all_placed line s _ c.before-2.ensures c.place_all-outcome.ensures c.in_default.is)
    _ a.buf.now _ c.table_length-needed.ensures.0 c.if-buf-needed.false c.write_placed.ensures
    (rw c.requires.starts_value at c.starts_by_number.ensures)

pub returns-in-Err : goal.returns-in-Err
returns-in-Err c =
    let a = c.args in
    let line = drawing a.line a.tasks.now a.releases.now a.deadlines.now in
    λ s. no_room-made line s _ c.before-2.ensures c.place_all-outcome.ensures _ _ a.buf.now
    c.in-Err.is c.requires.starts_value
