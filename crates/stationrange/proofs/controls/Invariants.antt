-- Invariant: the flag says whether the rows so far passed (`Tested`).
use Rattle.laws.proofs.Turns.{Tested}
use Rattle.stationrange.specs.Ranges.{control_test}
use Rattle.stationrange.proofs.controls.Given as goal

abbrev pub invariant-loop-row : goal.invariant-loop-row
invariant-loop-row l = Tested (control_test l.period.0 l.nodes l.starts l.stops) l.row l.good
