-- Invariant: the lines so far and those of the records still to come are the whole text (`SoFar`).
use lib.ListN.{length}
use Prim.Native.Nat.{◌-◌}
use Rattle.planwriter.proofs.LineByLine.{SoFar}
use Rattle.planwriter.proofs.put_lines.Given as goal

abbrev pub invariant-loop-kind : goal.invariant-loop-kind
invariant-loop-kind l = SoFar l.plan l.initial.text l.text l.previous l.at l.k l.number l.end

abbrev pub decreases-loop-kind : goal.decreases-loop-kind
decreases-loop-kind l = length l.plan - l.at
