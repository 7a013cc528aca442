-- Invariant: the flag says whether the modules so far passed (`Tested`).
use Rattle.laws.proofs.Turns.{Tested}
use Rattle.stationrange.specs.Ranges.{module_test}
use Rattle.stationrange.proofs.modules.Given as goal

abbrev pub invariant-loop-node : goal.invariant-loop-node
invariant-loop-node l = Tested (module_test l.nodes) l.node-index l.good
