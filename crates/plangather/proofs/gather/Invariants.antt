-- Invariant: the plan so far and the walk still to come make the whole answer (`SoFar`); each kind's store is a `with_record`.
use lib.ListN.{length}
use Prim.Native.Nat.{◌-◌}
use Rattle.plangather.proofs.SoFar.{SoFar}
use Rattle.plangather.proofs.gather.Given as goal

abbrev pub invariant-loop-kind : goal.invariant-loop-kind
invariant-loop-kind l = SoFar l.s l.p l.previous l.at

abbrev pub decreases-loop-kind : goal.decreases-loop-kind
decreases-loop-kind l = length l.s - l.at
