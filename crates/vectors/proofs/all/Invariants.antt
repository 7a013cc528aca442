-- The invariant says nothing: each case ends behind its begin, so that the bytes left fall.
use lib.ListN.{length}
use Prim.Native.Nat.{◌-◌}
use Rattle.vectors.proofs.all.Given as goal

abbrev pub invariant-loop-at : goal.invariant-loop-at
invariant-loop-at l = Unit {0}

abbrev pub decreases-loop-at : goal.decreases-loop-at
decreases-loop-at l = length l.file - l.at
