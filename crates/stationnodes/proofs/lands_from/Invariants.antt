-- Invariant: the places so far are filled by `lands_from` (`Filled`).
use Rattle.laws.proofs.Turns.{Filled}
use Rattle.stationbus.specs.Bus.{truth_at}
use Rattle.stationnodes.specs.Nodes.{lands_from}
use Rattle.stationnodes.proofs.lands_from.Given as goal

abbrev pub invariant-loop-t : goal.invariant-loop-t
invariant-loop-t l = Filled l.initial.landing-items (lands_from (truth_at l.initial.landing-items) l.full) l.t l.landing-items
