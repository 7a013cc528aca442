-- Frame rows in arrays, and what the arrays of placed frames give for them.
use Rattle.std.specs.Prelude.{List, map, length, get_or, set, replicate, ℕ, zero, suc, ◌+◌, ◌%◌}
use Rattle.laws.specs.Loops.{stores, pad_to}
use Rattle.rules.specs.Limits.{most_frames}
use Rattle.rules.specs.Table.{FrameRow}

-- The frame rows of an answer, in arrays: `frames` of them, zeros behind.
pub record Rows : Type 0 where
  pub frames : ℕ
  pub tasks : List ℕ
  pub releases : List ℕ
  pub deadlines : List ℕ
  pub starts : List ℕ

-- the numbers of a frame row
abbrev pub row_task : FrameRow → ℕ
row_task r = r.task

abbrev pub row_release : FrameRow → ℕ
row_release r = r.release

abbrev pub row_deadline : FrameRow → ℕ
row_deadline r = r.deadline

abbrev pub row_start : FrameRow → ℕ
row_start r = r.start

-- frame rows in arrays: their count, each array filled up with zeros
unfoldable pub rows_laid : List FrameRow → Rows
rows_laid rs =
    record {
      frames = length rs;
      tasks = pad_to most_frames 0 (map row_task rs);
      releases = pad_to most_frames 0 (map row_release rs);
      deadlines = pad_to most_frames 0 (map row_deadline rs);
      starts = pad_to most_frames 0 (map row_start rs);
    }

-- the starts stored at the numbers of the frames, the last first
abbrev pub scattered : List ℕ → List ℕ → ℕ → List ℕ → List ℕ
scattered number start zero by = by
scattered number start (suc j) by = scattered number start j (set by (get_or number j 0) (get_or start j 0))

-- row j of the table: its frame's task and deadline, and its stop, by the arrays of frames, of times by task and of placed frames
unfoldable pub task_at : List ℕ → List ℕ → ℕ → ℕ
task_at task number j = get_or task (get_or number j 0) 0

unfoldable pub stop_at : List ℕ → List ℕ → List ℕ → List ℕ → ℕ → ℕ
stop_at task time number start j = (get_or start j 0 + get_or time (task_at task number j) 0) % 4294967296

-- What stands in the table's data rows besides the starts, by row.
pub record TableRows : Type 0 where
  pub tasks : List ℕ
  pub deadlines : List ℕ
  pub stops : List ℕ

-- three arrays as what stands there
abbrev pub rows_in : List ℕ → List ℕ → List ℕ → TableRows
rows_in tasks deadlines stops = record { tasks = tasks; deadlines = deadlines; stops = stops }

-- the data rows of the placed frames, zeros behind them
unfoldable pub table_rows : List ℕ → List ℕ → List ℕ → List ℕ → List ℕ → ℕ → TableRows
table_rows task deadline time number start count =
    record {
      tasks = stores (replicate most_frames 0) (task_at task number) count;
      deadlines = stores (replicate most_frames 0) (task_at deadline number) count;
      stops = stores (replicate most_frames 0) (stop_at task time number start) count;
    }
