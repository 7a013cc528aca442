-- Invariant: the texts of the first t places are put (`Putting`), at most 63 bytes each; a turn is `putting_turn`.
use Rattle.text.proofs.Putting.{Putting}
use Rattle.answerlines.specs.Writing.{shown_at}
use Prim.Native.Nat.{◌+◌, ◌*◌, ◌≤◌}
use Rattle.answerlines.proofs.put_node.Given as goal

abbrev pub invariant-loop-t : goal.invariant-loop-t
invariant-loop-t l = (l.next ≤ l.at + 63 * l.t) × Putting l.initial.out l.at (shown_at l.n l.shown) l.t l.out l.next
