use Rattle.laws.proofs.Turns.{filled_turn, filled_next, filled-end}
use Rattle.stationbus.proofs.full_kept.Goals as goal

pub loop-flag-preserved : goal.loop-flag-preserved
loop-flag-preserved c =
    let so_far = c.loop-flag.invariant in
    filled_turn so_far (rw (c.is_set.ensures, filled_next so_far 0) at c.flag_byte.ensures)

pub returns : goal.returns
returns c = filled-end c.loop-flag.invariant c.loop-flag.auto.flag-index-end c.loop-flag-test.false
