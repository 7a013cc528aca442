-- Invariant: the places so far are filled by `shown_rule` (`Filled`).
use Rattle.laws.proofs.Turns.{Filled}
use Rattle.stationbus.specs.Bus.{number_at}
use Rattle.stationnodes.specs.Nodes.{shown_rule}
use Rattle.stationnodes.proofs.shown_after.Given as goal

abbrev pub invariant-loop-t : goal.invariant-loop-t
invariant-loop-t l =
    Filled l.initial.value-items (shown_rule l.ends l.homes l.nodes l.out l.held l.due l.n (number_at l.landed) l.initial.value-items) l.t l.value-items
