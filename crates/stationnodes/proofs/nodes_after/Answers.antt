use Rattle.laws.proofs.Turns.{filled_turn, filled_next, filled-end}
use Rattle.stationnodes.specs.Nodes.{node_rule, no_node}
use Rattle.stationnodes.proofs.nodes_after.Goals as goal

pub loop-n-preserved : goal.loop-n-preserved
unfolding node_rule
loop-n-preserved c =
    let so_far = c.loop-n.invariant in
    filled_turn so_far (rw (filled_next so_far no_node) at c.node_after.ensures)

pub returns : goal.returns
returns c = filled-end c.loop-n.invariant c.loop-n.auto.n-end c.loop-n-test.false
