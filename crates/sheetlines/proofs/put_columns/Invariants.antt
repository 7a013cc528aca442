-- Invariant: the first k columns are put (`Putting`), at most 23 bytes each; a turn is `putting_turn`.
use Rattle.std.proofs.Common.{◌+◌, ◌*◌, ◌≤◌}
use Rattle.text.proofs.Putting.{Putting}
use Rattle.sheet.specs.Sheet.{column_of, word_at}
use Rattle.sheetlines.proofs.put_columns.Given as goal

abbrev pub invariant-loop-k : goal.invariant-loop-k
invariant-loop-k l =
    record { few : l.next ≤ l.at + 23 * l.k; put : Putting l.initial.buf l.at (column_of (word_at l.cells)) l.k l.buf l.next }
