-- Invariant: the flag says whether the tasks so far passed (`Tested`).
use Rattle.laws.proofs.Turns.{Tested}
use Rattle.stationrange.specs.Ranges.{run_test}
use Rattle.stationrange.proofs.runs_of.Given as goal

abbrev pub invariant-loop-t : goal.invariant-loop-t
invariant-loop-t l = Tested (run_test l.runs l.mode l.period.0) l.t l.good
