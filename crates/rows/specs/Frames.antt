-- Frame rows as structs, and what a lent list of them holds on return.
use Rattle.std.specs.Prelude.{◌≡◌, cond, List, leb, ltb, length, get_or, replicate, ℕ}
use Rattle.laws.specs.Lists.{tab}
use Rattle.rules.specs.Limits.{most_frames}
use Rattle.rules.specs.Table.{FrameRow}
use Rattle.rows.specs.Rows.{Rows}
use Rattle.units.specs.declared.Frame.{Frame}

-- a frame row of these numbers
abbrev pub frame_of : ℕ → ℕ → ℕ → ℕ → Frame
frame_of task release deadline start =
    record { task = record { 0 = task }; release = record { 0 = release }; deadline = record { 0 = deadline }; start = record { 0 = start } }

abbrev pub zero_frame : Frame
zero_frame = frame_of 0 0 0 0

-- the frame row that a struct says
abbrev pub row_of : Frame → FrameRow
row_of f = record { task = f.task.0; release = f.release.0; deadline = f.deadline.0; start = f.start.0 }

-- at most as many frames as have places in the arrays
unfoldable pub within_places : ℕ → ℕ
within_places k = cond (ltb k most_frames) k most_frames

-- the frames of these numbers, in arrays
abbrev pub rows_with : ℕ → List ℕ → List ℕ → List ℕ → List ℕ → Rows
rows_with frames tasks releases deadlines starts =
    record { frames = frames; tasks = tasks; releases = releases; deadlines = deadlines; starts = starts }

-- the lent arrays as they come: zeros
abbrev pub NoRows : List ℕ → List ℕ → List ℕ → List ℕ → Type 0
NoRows tasks releases deadlines starts =
    (tasks ≡ replicate most_frames 0) × ((releases ≡ replicate most_frames 0) × ((deadlines ≡ replicate most_frames 0) × (starts ≡ replicate most_frames 0)))

unfoldable pub frame_at : Rows → ℕ → Frame
frame_at r k = frame_of (get_or r.tasks k 0) (get_or r.releases k 0) (get_or r.deadlines k 0) (get_or r.starts k 0)

-- row k: the frames by number, each with its start, and zero rows behind them
unfoldable pub frame_in : Rows → ℕ → Frame
frame_in r k = cond (ltb k (within_places r.frames)) (frame_at r k) zero_frame

-- how many of the lent rows have a frame: none where too few are lent
unfoldable pub end_of : ℕ → ℕ → ℕ
end_of frames lent = cond (ltb lent most_frames) 0 (within_places frames)

-- Refusal 19 leaves the rows unchanged; else every lent row is written.
unfoldable pub filled : Rows → List Frame → List Frame
filled r rows = cond (leb most_frames (length rows)) (tab (frame_in r) 0 (length rows)) rows
