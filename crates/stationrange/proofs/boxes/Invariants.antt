-- Invariant: the flag says whether the places so far passed (`Tested`).
use Rattle.laws.proofs.Turns.{Tested}
use Rattle.stationrange.specs.Ranges.{box_test}
use Rattle.stationrange.proofs.boxes.Given as goal

abbrev pub invariant-loop-t : goal.invariant-loop-t
invariant-loop-t l = Tested (box_test l.out l.loads) l.t l.good
