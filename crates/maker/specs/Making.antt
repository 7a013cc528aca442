-- What making a table answers, and what it leaves of the rows and of the lent buffer.
use Rattle.std.specs.Prelude.{◌≡◌, Result, Ok, Bool, List, eqb, leb, ltb, length, take, ℕ, ◌≤◌}
use Rattle.laws.specs.Res.{Res, ok, ◌>>◌, unless}
use Rattle.rules.specs.Limits.{most_frames}
use Rattle.rules.specs.Table.{FrameRow, MadeTable, table_for}
use Rattle.rules.specs.Checker.{check}
use Rattle.rows.specs.Frames.{rows_with}
use Rattle.answers.specs.declared.Refusal.{Refusal}
use Rattle.linetable.specs.Making.{Making}
use Rattle.maker.specs.declared.MadeRows.{MadeRows}

-- the answer with the frame rows that stand in the lent arrays
abbrev pub making : MadeRows → List ℕ → List ℕ → List ℕ → List ℕ → Making
making r tasks releases deadlines starts = record { answer = r.answer; rows = rows_with r.frames tasks releases deadlines starts }

-- Rule 21.1: editions by number, as a caller gives them: 0 is the basic one, 1 that for consumers; no other number is an edition's.
unfoldable pub is_edition : ℕ → Bool
is_edition edition = ltb edition 2

unfoldable pub for_consumers : ℕ → Bool
for_consumers edition = eqb edition 1

-- 19, too few frame rows lent, before all others; then 62, no edition of this number.
unfoldable pub lent_for : ℕ → List ℕ → ℕ → ℕ → Res MadeTable
lent_for edition plan lent room = do
  unless 19 most_frames (leb most_frames lent)
  unless 62 edition (is_edition edition)
  table_for (for_consumers edition) plan room

-- A made table passes the checker, whatever rows of the right number are lent to it.
unfoldable pub PassesCheck : List ℕ → Result ℕ Refusal → List ℕ → Type 0
PassesCheck plan answer buffer =
    (n : ℕ) → answer ≡ Ok n → (rows : List FrameRow) → most_frames ≤ length rows → (check plan (take n buffer) rows).answer ≡ ok tt
