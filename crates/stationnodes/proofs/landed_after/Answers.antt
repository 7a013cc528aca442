use Rattle.laws.proofs.Turns.{filled_turn, filled_next, filled-end}
use Rattle.stationnodes.proofs.landed_after.Goals as goal

pub loop-t-preserved : goal.loop-t-preserved
loop-t-preserved c =
    let so_far = c.loop-t.invariant in
    filled_turn so_far (rw (filled_next so_far 0) at c.landed_at.ensures)

pub returns : goal.returns
returns c = filled-end c.loop-t.invariant c.loop-t.auto.t-end c.loop-t-test.false
