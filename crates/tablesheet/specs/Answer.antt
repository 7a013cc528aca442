-- What the program writes, for each plan file and table file, and how it ends.
use Rattle.std.specs.Prelude.{◌&&◌, List, ℕ}
use Rattle.manners.specs.Status.{status_of, unless_long_status}
use Rattle.rules.specs.Checker.{check_files}
use Rattle.text.specs.Text.{is_short, unless_long}
use Rattle.sheet.specs.Sheet.{sheet_text}

-- Rules 1.5 and 17.1: of each of the two files at most 65,536 bytes are read.
unfoldable pub answer_for : List ℕ → List ℕ → List ℕ
answer_for plan table = unless_long (is_short 65536 plan && is_short 65536 table) (sheet_text plan table)

-- How the program ends: as `checktable` does, also where a sheet stands below the line of the refusal.
unfoldable pub status_for : List ℕ → List ℕ → ℕ
status_for plan table = unless_long_status (is_short 65536 plan && is_short 65536 table) (status_of (check_files plan table))
