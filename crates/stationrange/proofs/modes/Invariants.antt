-- Invariant: the flag says whether the modes so far passed (`Tested`).
use Rattle.laws.proofs.Turns.{Tested}
use Rattle.stationrange.specs.Ranges.{mode_test}
use Rattle.stationrange.proofs.modes.Given as goal

abbrev pub invariant-loop-mode : goal.invariant-loop-mode
invariant-loop-mode l = Tested (mode_test l.modules l.modes l.homes l.periods l.switches) l.mode l.good
