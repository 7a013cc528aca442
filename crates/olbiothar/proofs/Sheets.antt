-- A sheet and its way back in C's numbers: the ways out, and that no second answer and no second text say what the rules say.
use mathlib.Core.Path.{◌≡◌, refl}
use mathlib.Core.List.{List}
use lib.ListN.{length}
use borrow.Author.Tests.{le-leb, lt-leb}
use Prim.Native.Nat.{ℕ, ◌≤◌, ◌<◌}
use Rattle.rules.specs.Limits.{longest_sheet}
use Rattle.answers.specs.Answered.{judged}
use Rattle.outward.specs.declared.Answer.{Answer}
use Rattle.outward.specs.Answers.{answer_of}
use Rattle.text.specs.Text.{is_short}
use Rattle.sheet.specs.Back.{read_back}
use Rattle.std.specs.Prelude.{Result}
use Rattle.sheetreader.specs.declared.NoTable.{NoTable}
use Rattle.sheetreader.specs.Memory.{back_for, left_by}
use Rattle.sheetwriter.specs.declared.Written.{Written}
use Rattle.sheetwriter.specs.Writing.{Writes}
use Rattle.olbiothar.specs.declared.SheetAnswer.{SheetAnswer}
use Rattle.olbiothar.specs.Sheets.{back_said, has_room, is_read, sheet_left, sheet_said, table_left, table_said}

-- ---- a sheet

-- what `olbiothar_sheet` says
abbrev pub SheetIs : SheetAnswer → List ℕ → List ℕ → List ℕ → List ℕ → Type 0
SheetIs r old left plan table = (r ≡ sheet_said (has_room old) plan table) × (left ≡ sheet_left (has_room old) old plan table)

module _ (plan table old : List ℕ) where
  pub no_room : {r : SheetAnswer} → length old < longest_sheet → r ≡ record { checked = record { number = 13; place = longest_sheet }; length = 0 } → SheetIs r old old plan table
  unfolding has_room
  no_room h e = rw (lt-leb longest_sheet (length old) h, e) (refl, refl)

  pub sheet-written : {left : List ℕ} {r : SheetAnswer} (w : Written) → longest_sheet ≤ length old → Writes w old left plan table → {a : Answer} → a ≡ answer_of (judged w.answer)
      → r ≡ record { checked = a; length = w.length } → SheetIs r old left plan table
  unfolding has_room
  sheet-written w h by q e =
      rw (le-leb longest_sheet (length old) h, e, q, by.answered, by.long) (refl, by.put)

-- ---- and back

-- what `olbiothar_sheet_table` says
abbrev pub TableIs : Answer → List ℕ → List ℕ → List ℕ → Type 0
TableIs r text old left = (r ≡ table_said (is_read text) text old) × (left ≡ table_left (is_read text) text old)

module _ (text old : List ℕ) where
  pub too_long : {r : Answer} → longest_sheet < length text → r ≡ record { number = 61; place = longest_sheet } → TableIs r text old old
  unfolding is_short
  too_long h e = rw (lt-leb (length text) longest_sheet h, e) (refl, refl)

  pub table_back : {left : List ℕ} {r : Answer} {b : Result ℕ NoTable} → length text ≤ longest_sheet → b ≡ back_for (read_back text) old → left ≡ left_by (read_back text) old → r ≡ back_said b
      → TableIs r text old left
  unfolding is_short
  table_back h is l e = rw (le-leb (length text) longest_sheet h, e, is, l) (refl, refl)
