-- Invariant: the places so far are filled by `load_from` (`Filled`).
use Rattle.laws.proofs.Turns.{Filled}
use Rattle.stationbus.specs.Bus.{load_from, number_at, truth_at}
use Rattle.stationbus.proofs.loads_from.Given as goal

abbrev pub invariant-loop-t : goal.invariant-loop-t
invariant-loop-t l = Filled l.initial.load-items (load_from (truth_at l.starting) (number_at l.out) l.initial.load-items) l.t l.load-items
