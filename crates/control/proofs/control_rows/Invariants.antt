-- Invariant: the rows of the nodes passed stand in the arrays (`Shown`). Each stop fits, since none is behind C (`shown-fits`).
use Prim.Native.Nat.{◌≤◌}
use Rattle.plan.specs.Memory.{seen}
use Rattle.control.proofs.Turns.{Shown}
use Rattle.control.proofs.control_rows.Given as goal

abbrev pub invariant-loop-n : goal.invariant-loop-n
invariant-loop-n l =
    (l.n ≤ l.most) × (l.most ≤ 8) × Shown (seen l.p) l.n l.count l.start l.nodes l.starts l.stops
