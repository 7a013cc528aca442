use Rattle.laws.proofs.Turns.{filled_turn, filled-end}
use Rattle.stationsteps.proofs.ends_now.Goals as goal

pub loop-t-preserved : goal.loop-t-preserved
loop-t-preserved c = filled_turn c.loop-t.invariant (rw c.run_at.ensures at c.ends.ensures)

pub returns : goal.returns
returns c = filled-end c.loop-t.invariant c.loop-t.auto.t-end c.loop-t-test.false
