-- Invariant: the flag says whether the modes so far passed (`Tested`).
use Rattle.laws.proofs.Turns.{Tested}
use Rattle.stationrange.specs.Ranges.{runs_test}
use Rattle.stationrange.proofs.runs.Given as goal

abbrev pub invariant-loop-mode : goal.invariant-loop-mode
invariant-loop-mode l = Tested (runs_test l.runs l.periods) l.mode l.good
