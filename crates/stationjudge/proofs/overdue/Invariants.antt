-- Invariant: the tasks so far passed (`Passed`).
use Rattle.laws.proofs.Turns.{Passed}
use Rattle.stationjudge.specs.Judging.{in_time_test}
use Rattle.stationjudge.proofs.overdue.Given as goal

abbrev pub invariant-loop-t : goal.invariant-loop-t
invariant-loop-t l = Passed (in_time_test l.given l.tasks l.runs l.modes l.ages l.homes l.had l.worsts) l.t
