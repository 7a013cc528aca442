-- What a sheet and its way back come to in C's numbers, and what is left in the lent bytes.
use Rattle.std.specs.Prelude.{Bool, true, false, List, leb, length, Result, Ok, Err, ℕ}
use Rattle.std.proofs.lemmas.List.Edits.{sets}
use Rattle.rules.specs.Limits.{longest_sheet}
use Rattle.rules.specs.Checker.{check_files}
use Rattle.checked.specs.Checking.{verdict}
use Rattle.outward.specs.declared.Answer.{Answer}
use Rattle.outward.specs.Answers.{answer_of}
use Rattle.text.specs.Text.{is_short}
use Rattle.sheet.specs.Sheet.{sheet_text}
use Rattle.sheet.specs.Back.{read_back}
use Rattle.sheetreader.specs.declared.NoTable.{NoTable}
use Rattle.sheetreader.specs.declared.NoTable.TheVariants.{Needs, Unreadable}
use Rattle.sheetreader.specs.Memory.{back_for, left_by}
use Rattle.olbiothar.specs.declared.SheetAnswer.{SheetAnswer}

-- ---- a sheet

-- the lent bytes have room for the longest sheet
unfoldable pub has_room : List ℕ → Bool
has_room lent = leb longest_sheet (length lent)

-- what check says, and the text's length; too little room is refused before all else
abbrev pub sheet_said : Bool → List ℕ → List ℕ → SheetAnswer
sheet_said true plan table = record { checked = answer_of (verdict (check_files plan table)); length = length (sheet_text plan table) }
sheet_said false plan table = record { checked = record { number = 13; place = longest_sheet }; length = 0 }

abbrev pub sheet_left : Bool → List ℕ → List ℕ → List ℕ → List ℕ
sheet_left true lent plan table = sets lent 0 (sheet_text plan table)
sheet_left false lent plan table = lent

-- ---- and back

-- the text is not too long to be read
abbrev pub is_read : List ℕ → Bool
is_read text = is_short longest_sheet text

abbrev pub back_said : Result ℕ NoTable → Answer
back_said (Ok length) = record { number = 0; place = length }
back_said (Err (Unreadable line)) = record { number = 60; place = line }
back_said (Err (Needs bytes)) = record { number = 13; place = bytes }

abbrev pub table_said : Bool → List ℕ → List ℕ → Answer
table_said true text lent = back_said (back_for (read_back text) lent)
table_said false text lent = record { number = 61; place = longest_sheet }

abbrev pub table_left : Bool → List ℕ → List ℕ → List ℕ
table_left true text lent = left_by (read_back text) lent
table_left false text lent = lent
