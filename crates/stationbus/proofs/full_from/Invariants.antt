-- Invariant: the places so far are filled by `full_from` (`Filled`).
use Rattle.laws.proofs.Turns.{Filled}
use Rattle.stationbus.specs.Bus.{full_from, number_at, truth_at}
use Rattle.stationbus.proofs.full_from.Given as goal

abbrev pub invariant-loop-t : goal.invariant-loop-t
invariant-loop-t l =
    Filled l.initial.flag-items (full_from (truth_at l.starting) (number_at l.sent) l.homes (number_at l.modes) l.initial.flag-items) l.t l.flag-items
