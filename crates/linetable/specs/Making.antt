-- What making a table answers, and what it leaves of the rows and of the lent buffer.
use Rattle.std.specs.Prelude.{◌≡◌, Result, Ok, Err, List, [], ◌++◌, length, drop, replicate, ℕ}
use Rattle.laws.specs.Res.{Res, ok, refuse}
use Rattle.rules.specs.Limits.{most_frames}
use Rattle.rules.specs.Table.{FrameRow, MadeTable}
use Rattle.answers.specs.declared.Refusal.{Refusal}
use Rattle.answers.specs.Refusals.{said}
use Rattle.line.specs.Line.{Drawing}
use Rattle.rows.specs.Rows.{Rows, rows_laid}
use Rattle.rows.specs.Frames.{rows_with}

-- What making a table comes to, and the frame rows beside it.
pub record Making : Type 0 where
  pub answer : Result ℕ Refusal
  pub rows : Rows

-- the frame rows beside an answer: the frames of the line with these starts; where it refuses, of the frames none are left
abbrev pub rows_beside : Result ℕ Refusal → Drawing → List ℕ → Rows
rows_beside (Ok n) line starts = rows_with line.frames line.tasks line.releases line.deadlines starts
rows_beside (Err x) line starts = rows_with 0 (replicate most_frames 0) (replicate most_frames 0) (replicate most_frames 0) starts

-- an answer with these rows
abbrev pub tabled : Result ℕ Refusal → Drawing → List ℕ → Making
tabled r line starts = record { answer = r; rows = rows_beside r line starts }

-- the answer in the rules' words, and the rules' answer as a length
abbrev pub heard_made : Result ℕ Refusal → Res ℕ
heard_made (Ok n) = ok n
heard_made (Err x) = said x

abbrev pub length_of : Res MadeTable → Res ℕ
length_of (ok t) = ok (length t.table)
length_of (refuse n p) = refuse n p

-- the frame rows: none where the plan is refused
abbrev pub rows_of : Res MadeTable → List FrameRow
rows_of (ok t) = t.rows
rows_of (refuse n p) = []

-- the table at the front of the lent buffer, and the bytes behind it as they were; a refusal leaves all as they were
abbrev pub buffer_left : Res MadeTable → List ℕ → List ℕ
buffer_left (ok t) buffer = t.table ++ drop (length t.table) buffer
buffer_left (refuse n p) buffer = buffer

-- Making says what the rules say, and leaves the rows and the buffer that they leave.
pub record Makes (r : Making) (before after : List ℕ) (rule : Res MadeTable) : Type 0 where
  pub answered : heard_made r.answer ≡ length_of rule
  pub left : r.rows ≡ rows_laid (rows_of rule)
  pub written : after ≡ buffer_left rule before
