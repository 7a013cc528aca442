-- Places of arrays: stores and look-ups that ask nothing of the place, the first place that passes a test, marks.
use Rattle.std.specs.Prelude.{Bool, true, false, cond, ◌&&◌, not, List, eqb, ltb, get_or, set, replicate, ℕ, zero, suc, ◌+◌, ◌*◌, ◌≤◌, ◌<◌}
use Rattle.laws.specs.Loops.{placed}
use Rattle.rules.specs.Limits.{most_frames}

-- the number at a place of an array of `room` places; 0 behind its end
unfoldable pub look_in : ℕ → List ℕ → ℕ → ℕ
look_in room a k = cond (ltb k room) (get_or a k 0) 0

-- the number before a place; before the first place d
abbrev pub before_in : List ℕ → ℕ → ℕ → ℕ
before_in a d zero = d
before_in a d (suc k) = get_or a k 0

-- the first of n places from `low` on that passes the test, or the place behind them
abbrev pub place_from : (ℕ → Bool) → ℕ → ℕ → ℕ
place_from p low zero = low
place_from p low (suc n) = cond (p low) low (place_from p (suc low) n)

-- One number that orders frames by deadline, then by task, where tasks are bytes.
abbrev pub key_of : ℕ → ℕ → ℕ
key_of deadline task = deadline * 256 + task

unfoldable pub key_at : List ℕ → List ℕ → ℕ → ℕ
key_at tasks deadlines k = key_of (get_or deadlines k 0) (get_or tasks k 0)

-- Frames by number, as two arrays: no more than have a place, tasks are bytes, keys rise.
pub record Numbered (tasks deadlines : List ℕ) (frames : ℕ) : Type 0 where
  pub room : frames ≤ most_frames
  pub small : (k : ℕ) → k < frames → get_or tasks k 0 < 256
  pub rising : (j k : ℕ) → j < k → k < frames → key_at tasks deadlines j < key_at tasks deadlines k

-- `k` frames have lower keys, and no other has
pub record Parted (tasks deadlines : List ℕ) (frames wanted k : ℕ) : Type 0 where
  pub within : k ≤ frames
  pub below : (j : ℕ) → j < k → key_at tasks deadlines j < wanted
  pub above : (j : ℕ) → k ≤ j → j < frames → wanted ≤ key_at tasks deadlines j

-- one of the frames stands at this place, with this key
unfoldable pub has_key : List ℕ → List ℕ → ℕ → ℕ → ℕ → Bool
has_key tasks deadlines frames wanted k = ltb k frames && eqb (key_at tasks deadlines k) wanted

-- the frame at this place has this task and this deadline
unfoldable pub is_pair : List ℕ → List ℕ → ℕ → ℕ → ℕ → Bool
is_pair tasks deadlines task deadline k = eqb task (get_or tasks k 0) && eqb deadline (get_or deadlines k 0)

-- the number of the frame with this task and this deadline, or how many frames there are
unfoldable pub number_of : List ℕ → List ℕ → ℕ → ℕ → ℕ → ℕ
number_of tasks deadlines frames task deadline = place_from (is_pair tasks deadlines task deadline) 0 frames

-- the number of the frame that a row names
unfoldable pub number_at : List ℕ → List ℕ → ℕ → List ℕ → List ℕ → ℕ → ℕ
number_at tasks deadlines frames row_tasks row_deadlines k =
    number_of tasks deadlines frames (get_or row_tasks k 0) (get_or row_deadlines k 0)

-- the frames that the first k rows name, marked
abbrev pub marks : List ℕ → ℕ → List Bool
marks numbers zero = replicate most_frames false
marks numbers (suc k) = set (marks numbers k) (get_or numbers k 0) true

-- row k names a frame that no row before it names
unfoldable pub is_new : List ℕ → ℕ → ℕ → Bool
is_new numbers frames k =
    ltb (get_or numbers k 0) frames && not (get_or (marks numbers k) (get_or numbers k 0) false)

-- the starts of the first k rows, each at the number of its frame
abbrev pub spread : List ℕ → List ℕ → ℕ → List ℕ
spread numbers starts zero = replicate most_frames 0
spread numbers starts (suc k) = placed most_frames (spread numbers starts k) (get_or numbers k 0) (get_or starts k 0)
