-- What the program writes, for each text, and how it ends.
use Rattle.std.specs.Prelude.{List, ℕ}
use Rattle.manners.specs.Status.{done, refused, unless_long_status}
use Rattle.rules.specs.Limits.{longest_sheet}
use Rattle.text.specs.Text as text
use Rattle.text.specs.Text.{is_short, unless_long}
use Rattle.sheet.specs.Back.{TableBack, read_back, table, unreadable_line}

-- the table's bytes, or the line `unreadable line L`
abbrev pub written : TableBack → List ℕ
written (table bytes) = bytes
written (unreadable_line n) = text.unreadable_line n

-- Rule 18.5: at most 262,144 bytes are read.
unfoldable pub answer_for : List ℕ → List ℕ
answer_for sheet = unless_long (is_short longest_sheet sheet) (written (read_back sheet))

abbrev pub status_of : TableBack → ℕ
status_of (table bytes) = done
status_of (unreadable_line n) = refused

-- How the program ends.
unfoldable pub status_for : List ℕ → ℕ
status_for sheet = unless_long_status (is_short longest_sheet sheet) (status_of (read_back sheet))
