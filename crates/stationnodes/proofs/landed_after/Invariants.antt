-- Invariant: the places so far are filled by `landed_rule` (`Filled`).
use Rattle.laws.proofs.Turns.{Filled}
use Rattle.stationnodes.specs.Nodes.{landed_rule}
use Rattle.stationnodes.proofs.landed_after.Given as goal

abbrev pub invariant-loop-t : goal.invariant-loop-t
invariant-loop-t l =
    Filled l.initial.value-items (landed_rule l.lands l.loads l.homes l.nodes l.n l.initial.value-items) l.t l.value-items
