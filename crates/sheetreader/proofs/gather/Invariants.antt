-- Invariant: what is held is what the definition has read, and the lines left lead to the same end (`Gathering`).
use Prim.Native.Nat.{◌-◌}
use lib.ListN.{length}
use Rattle.sheetreader.specs.Memory.{laid}
use Rattle.sheetreader.proofs.Gathering.{Gathering}
use Rattle.sheetreader.proofs.gather.Given as goal

abbrev pub invariant-loop-at : goal.invariant-loop-at
invariant-loop-at l =
    Gathering l.text l.at l.line (laid l.held l.control_nodes l.control_starts l.control_stops l.tasks l.deadlines l.starts l.stops)

abbrev pub decreases-loop-at : goal.decreases-loop-at
decreases-loop-at l =
    length l.text - l.at
