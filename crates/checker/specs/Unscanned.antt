-- A check that leaves rule 25 to a scan of the lent rows.
use Rattle.std.specs.Prelude.{◌≡◌, Bool, true, false, List, ◌⊎◌, get_or, ℕ, ◌≤◌, ◌<◌}
use Rattle.laws.specs.Res.{Res, ok, refuse}
use Rattle.rules.specs.Limits.{most_frames}
use Rattle.rules.specs.Records.{Rec}
use Rattle.rules.specs.Checker.{Passed, table_of}
use Rattle.answers.specs.declared.Refusal.TheVariants.{BadTableRecords}
use Rattle.std.specs.Prelude.{Result, Ok, Err}
use Rattle.answers.specs.declared.Refusal.{Refusal}
use Rattle.answers.specs.Answered.{judged as heard}
use Rattle.line.specs.Line.{Drawing}
use Rattle.table.specs.Memory.{lay_out, seen}
use Rattle.judging.specs.Judged.{judgement, frames_on, line_judged, Right}
use Rattle.rows.specs.Rows.{Rows, rows_laid}
use Rattle.rows.specs.Frames.{rows_with}
use Rattle.checked.specs.Checking.{Checked, verdict, rows_of}
use Rattle.checker.specs.declared.CheckedRows.{CheckedRows}
use Rattle.checker.specs.declared.Ruling.{Ruling}

-- what a check comes to, with the frame rows in the lent arrays
abbrev pub checking : CheckedRows → List ℕ → List ℕ → List ℕ → List ℕ → Checked
checking r tasks releases deadlines starts = record { answer = r.answer; rows = rows_with r.frames tasks releases deadlines starts }

-- no frame row starts before its release
abbrev pub NoRowEarly : Rows → Type 0
NoRowEarly r = (k : ℕ) → k < r.frames → get_or r.releases k 0 ≤ get_or r.starts k 0

-- The answer is that of the rules where rule 25 was looked at, or where no frame row is early if enough rows are lent; the rows are those of a table that the rules pass.
pub record Judged (early-too : Bool) (lent : ℕ) (r : Checked) (rule : Res Passed) : Type 0 where
  pub answered : (early-too ≡ true) ⊎ (most_frames ≤ lent → NoRowEarly r.rows) → heard r.answer ≡ verdict rule
  pub left : (c : Passed) → rule ≡ ok c → r.rows ≡ rows_laid (rows_of (ok c))
  pub few : r.rows.frames ≤ most_frames

-- What a table file comes to by a line and its frames, which stand in arrays: 20 and no frames where it is not records; else the line's frames, and
-- what is right of the table that its records make.
abbrev pub ByTable : Bool → Drawing → Res (List Rec) → CheckedRows → List ℕ → Type 0
ByTable early-too l (refuse n place) r starts = r ≡ record { answer = Err (BadTableRecords (record { 0 = place })); frames = 0 }
ByTable early-too l (ok rs) r starts =
    (r.frames ≡ l.frames)
    × Right early-too l.releases l.frames (line_judged l (seen (lay_out (table_of rs)))) (frames_on l) (seen (lay_out (table_of rs)))
    (judgement r.answer starts)

abbrev pub refuses : Result (Unit {0}) Refusal → Bool
refuses (Ok x) = false
refuses (Err x) = true

-- Where a row was early the answer is that of the rules, else the one before; and whether it refuses.
pub record Settles (early : Bool) (before : Result (Unit {0}) Refusal) (rule : Res Passed) (r : Ruling) : Type 0 where
  pub whole : early ≡ true → heard r.answer ≡ verdict rule
  pub kept : early ≡ false → r.answer ≡ before
  pub refused : r.refused ≡ refuses r.answer
