-- Invariant: the rows so far have another time (`Passed`); an equal time is the first one that fails it (`row_by_other`).
use Rattle.laws.proofs.Turns.{Passed}
use Rattle.stationbus.specs.Bus.{has_other}
use Rattle.stationbus.proofs.first_with.Given as goal

abbrev pub invariant-loop-row : goal.invariant-loop-row
invariant-loop-row l = Passed (has_other l.times l.time.0) l.row
