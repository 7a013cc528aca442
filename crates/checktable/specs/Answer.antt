-- What the program writes, for each plan file and table file, and how it ends.
use Rattle.std.specs.Prelude.{◌&&◌, List, ℕ}
use Rattle.laws.specs.Res.{Res, ok, refuse}
use Rattle.rules.specs.Checker.{Passed, check_files}
use Rattle.manners.specs.Status.{status_of, unless_long_status}
use Rattle.text.specs.Text.{is_short, passed_line, refused_line, unless_long}

-- the line `passed`, or that of the refusal
abbrev pub line_for : Res Passed → List ℕ
line_for (ok c) = passed_line
line_for (refuse n p) = refused_line n p

-- Rule 1.5, of each of the two files: at most 65,536 bytes are read.
unfoldable pub answer_for : List ℕ → List ℕ → List ℕ
answer_for plan table = unless_long (is_short 65536 plan && is_short 65536 table) (line_for (check_files plan table))

-- How the program ends.
unfoldable pub status_for : List ℕ → List ℕ → ℕ
status_for plan table = unless_long_status (is_short 65536 plan && is_short 65536 table) (status_of (check_files plan table))
