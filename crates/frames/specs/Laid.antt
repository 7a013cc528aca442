-- The frames by number in memory: an array for each of their numbers, zeros behind.
use Rattle.std.specs.Prelude.{List, map, length, get_or, ℕ, suc, min}
use Rattle.laws.specs.Lists.{tab}
use Rattle.laws.specs.Loops.{pad_to}
use Rattle.rules.specs.Limits.{most_frames}
use Rattle.rules.specs.Frames.{Pair}
use Rattle.frames.specs.Walk.{task_of, release_of, deadline_of}

-- the count, and an array for each number of a frame
pub record Frames : Type 0 where
  pub count : ℕ
  pub tasks : List ℕ
  pub releases : List ℕ
  pub deadlines : List ℕ

-- a count and three arrays as one
abbrev pub frames_with : ℕ → List ℕ → List ℕ → List ℕ → Frames
frames_with n tasks releases deadlines = record { count = n; tasks = tasks; releases = releases; deadlines = deadlines }

unfoldable pub column : (Pair → ℕ) → List Pair → List ℕ
column number fs = pad_to most_frames 0 (map number fs)

unfoldable pub frames_laid : List Pair → Frames
frames_laid fs =
    record {
      count = min (suc most_frames) (length fs);
      tasks = column task_of fs;
      releases = column release_of fs;
      deadlines = column deadline_of fs;
    }

-- the frames that the arrays stand for
unfoldable pub frame_in : Frames → ℕ → Pair
frame_in f k = record { task = get_or f.tasks k 0; release = get_or f.releases k 0; deadline = get_or f.deadlines k 0 }

unfoldable pub frames_seen : Frames → List Pair
frames_seen f = tab (frame_in f) 0 f.count
