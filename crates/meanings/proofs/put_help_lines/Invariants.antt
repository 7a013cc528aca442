-- Invariant: the lines of the first i numbers are put (`Putting`), at most 125 bytes each; a turn is `putting_turn`.
use Rattle.std.proofs.Common.{◌+◌, ◌*◌, ◌≤◌}
use Rattle.text.proofs.Putting.{Putting}
use Rattle.meanings.specs.Meanings.{help_line_from}
use Rattle.meanings.proofs.put_help_lines.Given as goal

abbrev pub invariant-loop-i : goal.invariant-loop-i
invariant-loop-i l =
    record { few : l.next ≤ l.at + 125 * l.i; put : Putting l.initial.out l.at (help_line_from l.first) l.i l.out l.next }
