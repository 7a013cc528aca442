-- Invariant: the flag says whether the pairs so far passed (`Tested`).
use Rattle.laws.proofs.Turns.{Tested}
use Rattle.stationrange.specs.Ranges.{pair_test}
use Rattle.stationrange.proofs.pairs.Given as goal

abbrev pub invariant-loop-q : goal.invariant-loop-q
invariant-loop-q l = Tested (pair_test l.tasks l.period.0 l.pair_tasks l.pair_deadlines l.pair_starts l.pair_stops) l.q l.good
