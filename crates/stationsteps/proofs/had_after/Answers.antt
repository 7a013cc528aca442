use Rattle.laws.proofs.Turns.{filled_turn, filled_next, filled-end}
use Rattle.stationsteps.proofs.had_after.Goals as goal

pub loop-t-preserved : goal.loop-t-preserved
loop-t-preserved c =
    let so_far = c.loop-t.invariant in
    filled_turn so_far (rw (
      c.had_at.ensures,
      c.is_set.ensures,
      c.flag_at-changes.ensures,
      c.place.ensures,
      c.is_set-in-loop-t.ensures,
      filled_next so_far 0,
    ) at c.flag_byte.ensures)

pub returns : goal.returns
returns c = filled-end c.loop-t.invariant c.loop-t.auto.t-end c.loop-t-test.false
