use Rattle.text.proofs.Putting.{putting_none, putting_turn, putting_end, putting_length}
use Rattle.answerlines.specs.Writing.{shown_at}
use native.Mathlib.Omega.{arith}
use borrow.Author.Rules.{rules}
use Rattle.answerlines.proofs.put_node.Goals as goal

pub loop-t-init : goal.loop-t-init
loop-t-init c = (search rules, putting_none)

pub loop-t-preserved : goal.loop-t-preserved
unfolding shown_at
loop-t-preserved c =
    (search rules, putting_turn c.loop-t.invariant.1 c.put_place-next.ensures.out_after)

pub shape_of-out : goal.shape_of-out
shape_of-out c = putting_length c.loop-t.invariant.1

pub returns : goal.returns
returns c = record { out_after = putting_end c.loop-t.invariant.1 (omega arith) (omega arith); few = omega arith }
