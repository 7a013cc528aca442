-- Invariant: the flag says whether the tasks so far passed (`Tested`).
use Rattle.laws.proofs.Turns.{Tested}
use Rattle.stationrange.specs.Ranges.{task_test}
use Rattle.stationrange.proofs.tasks.Given as goal

abbrev pub invariant-loop-t : goal.invariant-loop-t
invariant-loop-t l = Tested (task_test l.modules l.tasks l.homes l.sizes l.worsts) l.t l.good
