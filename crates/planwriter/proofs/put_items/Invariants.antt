-- Invariant: what is put and the items still to be put are the whole (`Itemed`).
use Prim.Native.Nat.{◌+◌, ◌*◌, ◌≤◌}
use Rattle.planwriter.proofs.Pieces.{Itemed}
use Rattle.planwriter.proofs.put_items.Given as goal

abbrev pub invariant-loop-item : goal.invariant-loop-item
invariant-loop-item l =
    (l.next ≤ l.at + 276 * l.item-index) × (l.from ≤ 256 * l.item-index)
    × Itemed l.initial.out l.at l.kind l.body l.item-index l.from l.out l.next
