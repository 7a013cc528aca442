-- Invariant: the first j places of the three arrays are filled as the definition says (`stores`).
use Rattle.std.proofs.Common.{◌≡◌, replicate}
use Rattle.rules.specs.Limits.{most_frames}
use Rattle.laws.specs.Loops.{stores}
use Rattle.rows.specs.Rows.{task_at, stop_at}
use Rattle.rows.proofs.table_rows.Given as goal

abbrev pub invariant-loop-j : goal.invariant-loop-j
invariant-loop-j l =
    record {
      tasks : l.row_tasks ≡ stores (replicate most_frames 0) (task_at l.tasks l.numbers) l.j;
      deadlines : l.row_deadlines ≡ stores (replicate most_frames 0) (task_at l.deadlines l.numbers) l.j;
      stops : l.row_stops ≡ stores (replicate most_frames 0) (stop_at l.tasks l.times l.numbers l.starts) l.j;
    }
