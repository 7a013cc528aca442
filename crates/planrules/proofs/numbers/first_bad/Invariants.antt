-- Invariant, for either test: what was found, else the first bad of the rest, is the answer (`Scanned`). `Wrong` cannot be.
use lib.ListN.{length}
use Prim.Native.Nat.{◌-◌}
use Rattle.rules.specs.Plan.{names_are_there, numbers_are_within}
use Rattle.planrules.specs.Tests.{listed}
use Rattle.planrules.proofs.RecordScan.{Scanned}
use Rattle.planrules.proofs.numbers.first_bad.Given as goal

abbrev pub invariant-loop-kind : goal.invariant-loop-kind
invariant-loop-kind l =
    Scanned l.s (names_are_there (listed l.counts)) l.previous l.at l.n l.named × Scanned l.s numbers_are_within l.previous l.at l.n l.ranged

abbrev pub decreases-loop-kind : goal.decreases-loop-kind
decreases-loop-kind l = length l.s - l.at
