-- Invariant: what is stored and what the lines left come to are what the whole text comes to (`Gathering`).
use Prim.Native.Nat.{◌-◌}
use lib.ListN.{length}
use Rattle.planreader.proofs.Gathering.{Gathering}
use Rattle.planreader.proofs.gather.Given as goal

abbrev pub invariant-loop-at : goal.invariant-loop-at
invariant-loop-at l = Gathering l.text l.initial.out l.out l.last.kind l.last.end l.at l.line

abbrev pub decreases-loop-at : goal.decreases-loop-at
decreases-loop-at l = length l.text - l.at
