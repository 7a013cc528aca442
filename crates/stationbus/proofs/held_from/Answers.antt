use Rattle.laws.proofs.Turns.{filled_turn, filled_next, filled-end}
use Rattle.stationbus.proofs.held_from.Goals as goal

pub loop-place-preserved : goal.loop-place-preserved
loop-place-preserved c =
    let so_far = c.loop-place.invariant in
    filled_turn so_far (rw (filled_next so_far 0) at c.held_at.ensures)

pub returns : goal.returns
returns c = filled-end c.loop-place.invariant c.loop-place.auto.place-end c.loop-place-test.false
