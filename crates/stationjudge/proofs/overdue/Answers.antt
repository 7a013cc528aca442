use Rattle.laws.proofs.Turns.{passed_turn, passed_hit, passed_end}
use Rattle.stationjudge.proofs.overdue.Goals as goal

pub loop-t-preserved : goal.loop-t-preserved
loop-t-preserved c =
    passed_turn c.loop-t.invariant (rw (c.is_set.ensures, c.from.ensures, c.run_at-run.ensures, c.is_set-in-loop-t.ensures) at c.is_in_time.ensures) c.if-not-is_in_time.false

pub returns-then-not-is_in_time : goal.returns-then-not-is_in_time
returns-then-not-is_in_time c =
    passed_hit c.loop-t.invariant c.loop-t-test.true (rw (c.is_set.ensures, c.from.ensures, c.run_at-run.ensures, c.is_set-in-loop-t.ensures) at c.is_in_time.ensures) c.if-not-is_in_time.true

pub returns : goal.returns
returns c = passed_end c.loop-t.invariant c.loop-t.auto.t-end c.loop-t-test.false
