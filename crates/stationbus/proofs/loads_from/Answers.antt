use Rattle.laws.proofs.Turns.{filled_turn, filled_next, filled-end}
use Rattle.stationbus.proofs.loads_from.Goals as goal
use Rattle.stationbus.proofs.loads_from.Goals.{then-starting-t, else-starting-t}

pub loop-t-preserved : goal.loop-t-preserved
loop-t-preserved c =
    let so_far = c.loop-t.invariant in
    elim c.if-starting-t.branch [
      | then-starting-t w ↦ rw w.load-items-is (filled_turn so_far (rw w.if-starting-t.true))
      | else-starting-t w ↦ rw w.load-items-is (filled_turn so_far (rw (filled_next so_far 0, w.if-starting-t.false)))
    ]

pub returns : goal.returns
returns c = filled-end c.loop-t.invariant c.loop-t.auto.t-end c.loop-t-test.false
