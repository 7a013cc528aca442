use Rattle.laws.proofs.Turns.{passed_turn, passed_hit, passed_end}
use Rattle.stationjudge.proofs.not_awaited.Goals as goal

pub loop-t-preserved : goal.loop-t-preserved
loop-t-preserved c =
    passed_turn c.loop-t.invariant (rw (c.is_set.ensures, c.from.ensures, c.run_at-run.ensures, c.is_set-in-loop-t.ensures) at c.is_awaited.ensures) c.if-not-is_awaited.false

pub returns-then-not-is_awaited : goal.returns-then-not-is_awaited
returns-then-not-is_awaited c =
    passed_hit c.loop-t.invariant c.loop-t-test.true (rw (c.is_set.ensures, c.from.ensures, c.run_at-run.ensures, c.is_set-in-loop-t.ensures) at c.is_awaited.ensures) c.if-not-is_awaited.true

pub returns : goal.returns
returns c = passed_end c.loop-t.invariant c.loop-t.auto.t-end c.loop-t-test.false
