-- Invariant: the texts of the first n nodes are put (`Putting`), at most 2016 bytes each; a turn is `putting_turn`.
use Rattle.text.proofs.Putting.{Putting}
use Rattle.answerlines.specs.Writing.{node_shown}
use Prim.Native.Nat.{◌+◌, ◌*◌, ◌≤◌}
use Rattle.answerlines.proofs.put_nodes.Given as goal

abbrev pub invariant-loop-n : goal.invariant-loop-n
invariant-loop-n l = (l.next ≤ l.at + 2016 * l.n) × Putting l.initial.out l.at (node_shown l.node-items) l.n l.out l.next
