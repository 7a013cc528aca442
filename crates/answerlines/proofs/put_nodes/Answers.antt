use Rattle.text.proofs.Putting.{putting_none, putting_turn, putting_end, putting_length}
use Rattle.answerlines.specs.Writing.{node_shown}
use native.Mathlib.Omega.{arith}
use borrow.Author.Rules.{rules}
use Rattle.answerlines.proofs.put_nodes.Goals as goal

pub loop-n-init : goal.loop-n-init
loop-n-init c = (search rules, putting_none)

pub loop-n-preserved : goal.loop-n-preserved
unfolding node_shown
loop-n-preserved c =
    (search rules, putting_turn c.loop-n.invariant.1 c.put_node-next.ensures.out_after)

pub shape_of-out : goal.shape_of-out
shape_of-out c = putting_length c.loop-n.invariant.1

pub returns : goal.returns
returns c = record { out_after = putting_end c.loop-n.invariant.1 (omega arith) (omega arith); few = omega arith }
