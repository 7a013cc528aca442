use Rattle.laws.proofs.Turns.{filled_turn, filled_next, filled-end}
use Rattle.stationbus.proofs.full_from.Goals as goal

pub loop-t-preserved : goal.loop-t-preserved
loop-t-preserved c =
    let so_far = c.loop-t.invariant in
    filled_turn so_far (rw (c.from-mode.ensures, c.entry_or.ensures, c.from-home.ensures, filled_next so_far 0) at c.full_at.ensures)

pub returns : goal.returns
returns c = filled-end c.loop-t.invariant c.loop-t.auto.t-end c.loop-t-test.false
