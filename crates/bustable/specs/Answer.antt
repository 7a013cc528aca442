-- What the program writes, for each input, and how it ends.
use Rattle.std.specs.Prelude.{Bool, List, ℕ}
use Rattle.laws.specs.Res.{Res, ok, refuse}
use Rattle.rules.specs.Table.{MadeTable, table_for}
use Rattle.manners.specs.Status.{status_of, unless_long_status}
use Rattle.text.specs.Text.{is_short, refused_line, unless_long}

-- Rule 1.5: the table's bytes, or the line of the refusal.
abbrev pub written : Res MadeTable → List ℕ
written (ok t) = t.table
written (refuse n p) = refused_line n p

-- Rule 1.5: at most 65,536 bytes are read; `room` bytes are lent for the table. Rule 21.1: the option `--consumers` chooses the edition.
unfoldable pub answer_for : Bool → ℕ → List ℕ → List ℕ
answer_for consumers room input = unless_long (is_short 65536 input) (written (table_for consumers input room))

-- How the program ends.
unfoldable pub status_for : Bool → ℕ → List ℕ → ℕ
status_for consumers room input = unless_long_status (is_short 65536 input) (status_of (table_for consumers input room))
