use mathlib.Core.Path.{refl}
use Rattle.laws.proofs.Turns.{tested_turn, tested_end}
use Rattle.stationrange.proofs.modules.Goals as goal

pub loop-node-preserved : goal.loop-node-preserved
loop-node-preserved c = tested_turn c.loop-node.invariant refl (rw c.from.ensures)

pub returns : goal.returns
returns c = tested_end c.loop-node.invariant c.loop-node.auto.node-index-end c.loop-node-test.false
