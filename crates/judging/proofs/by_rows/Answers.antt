-- What the scans found, put in order (`rows_judged`), is what the rules say: `rows_right`.
use mathlib.Core.Path.{refl}
use native.Mathlib.Omega.{arith}
use Prim.Native.Nat.{◌≤◌}
use Rattle.rules.specs.Limits.{most_frames}
use Rattle.naming.specs.Places.{is_new}
use Rattle.table.specs.Memory.{table_with}
use Rattle.datarows.specs.Rows.{time_kept, release_kept, due_kept, gap_kept}
use Rattle.judging.proofs.Verdicts.{spot_among, spot_only, rows_right}
use Rattle.judging.proofs.by_rows.Goals as goal

pub numbers-requires : goal.numbers-requires
numbers-requires c =
    record {
      numbered = c.requires.numbered;
      rows_le_most_frames = omega (arith, c.requires.numbered.room, c.requires.rows_value);
      found_value = refl;
    }

pub last_stop-last-requires : goal.last_stop-last-requires
last_stop-last-requires c =
    omega (arith, c.requires.numbered.room, c.requires.controls_le_most_nodes, c.requires.rows_value)

pub first_crowded-crowded-requires : goal.first_crowded-crowded-requires
first_crowded-crowded-requires c =
    omega (arith, c.requires.numbered.room, c.requires.controls_le_most_nodes, c.requires.rows_value)

pub gap_at_end-ends-requires : goal.gap_at_end-ends-requires
gap_at_end-ends-requires c =
    omega (arith, c.requires.numbered.room, c.requires.controls_le_most_nodes, c.requires.rows_value)

pub overflow_add-heading : goal.overflow_add-heading
overflow_add-heading c =
    omega (arith, c.requires.numbered.room, c.requires.controls_le_most_nodes, c.requires.rows_value)

pub starts_by_frame-requires : goal.starts_by_frame-requires
starts_by_frame-requires c =
    record {
      rows_le_most_frames = omega (arith, c.requires.numbered.room, c.requires.controls_le_most_nodes, c.requires.rows_value);
      out_value = c.requires.starts_value;
    }

pub overflow_add-heading-2 : goal.overflow_add-heading-2
overflow_add-heading-2 c =
    omega (arith, c.requires.numbered.room, c.requires.controls_le_most_nodes, c.requires.rows_value)

pub rows_judged-requires : goal.rows_judged-requires
rows_judged-requires c =
    let a = c.args in
    let few : a.heading.rows ≤ most_frames = omega (arith, c.requires.numbered.room, c.requires.controls_le_most_nodes, c.requires.rows_value) in
    record {
      first_bound = omega (arith, c.requires.numbered.room, c.requires.controls_le_most_nodes, c.requires.rows_value);
      among = (
        spot_among (is_new _ a.frames) a.heading.rows most_frames c.first_unnamed-unnamed.ensures few,
        (
          spot_among (time_kept a.row_tasks.now a.row_starts.now a.row_stops.now a.times.now a.bounds.resolution.0)
              a.heading.rows most_frames c.first_mistimed-mistimed.ensures few,
          (
            spot_only a.early_too (release_kept a.row_starts.now a.releases.now _) a.heading.rows most_frames c.early_in-early.ensures few,
            (
              spot_among (due_kept a.row_stops.now a.row_deadlines.now) a.heading.rows most_frames c.first_late-late.ensures few,
              spot_among (gap_kept a.row_starts.now a.row_stops.now c.last_stop-last.result.0 a.bounds.gap.0) a.heading.rows most_frames c.first_crowded-crowded.ensures few,
            ),
          ),
        ),
      );
    }

pub returns : goal.returns
returns c =
    let a = c.args in
    rows_right a.tasks.now a.releases.now a.deadlines.now a.times.now a.frames c.requires.numbered a.bounds
    (table_with a.heading a.row_tasks.now a.row_deadlines.now a.row_starts.now a.row_stops.now)
    (omega (arith, c.requires.numbered.room, c.requires.controls_le_most_nodes, c.requires.rows_value))
    c.numbers.ensures c.first_unnamed-unnamed.ensures c.first_mistimed-mistimed.ensures c.early_in-early.ensures c.first_late-late.ensures
    c.last_stop-last.ensures c.first_crowded-crowded.ensures c.gap_at_end-ends.ensures c.end_judged-end.ensures _ c.rows_judged.ensures c.starts_by_frame.ensures
