-- What has landed is read back from the array just filled (`shown_of_landed`); `made` puts the two halves together.
use mathlib.Core.Path.{◌≡◌}
use lib.ListN.{length}
use Rattle.stationnodes.specs.Nodes.{node_at, landed_rule}
use Rattle.stationnodes.proofs.Ways.{made, shown_of_landed}
use borrow.Author.Rules.{rules}
use Rattle.stationnodes.proofs.node_after.Goals as goal

pub returns : goal.returns
unfolding node_at
returns c =
    let a = c.args in
    let size : length a.node.landed ≡ 32 = search rules in
    let landed = c.landed_after-landed in
    made landed.ensures
    (shown_of_landed a.ends.now a.homes.now a.nodes.now a.out.now a.held.now a.due.now a.n
    a.node.landed a.node.shown (landed_rule a.lands.now a.loads.now a.homes.now a.nodes.now a.n a.node.landed)
    size landed.ensures c.shown_after-shown.ensures)
