-- Invariant: the nodes so far are filled by `node_rule` (`Filled`).
use Rattle.laws.proofs.Turns.{Filled}
use Rattle.stationnodes.specs.Nodes.{node_rule}
use Rattle.stationnodes.proofs.nodes_after.Given as goal

abbrev pub invariant-loop-n : goal.invariant-loop-n
invariant-loop-n l =
    Filled l.initial.node-items (node_rule l.lands l.loads l.ends l.homes l.nodes l.out l.held l.due l.initial.node-items) l.n l.node-items
