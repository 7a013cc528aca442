use Rattle.laws.proofs.Turns.{filled_turn, filled_next, filled-end}
use Rattle.stationbus.proofs.bytes_from.Goals as goal

pub loop-m-preserved : goal.loop-m-preserved
loop-m-preserved c =
    let so_far = c.loop-m.invariant in
    filled_turn so_far (rw (filled_next so_far 0) at c.byte_from.ensures)

pub returns : goal.returns
returns c = filled-end c.loop-m.invariant c.loop-m.auto.m-end c.loop-m-test.false
