use Rattle.laws.proofs.Turns.{passed_turn, passed_hit, passed_end}
use Rattle.stationruns.proofs.Given.{given-then_some}
use Rattle.stationjudge.proofs.not_allowed.Goals as goal

pub loop-m-preserved : goal.loop-m-preserved
loop-m-preserved c =
    passed_turn c.loop-m.invariant (rw (c.then_some.ensures, given-then_some, c.is_set.ensures, c.entry_or.ensures, c.place.ensures) at c.is_allowed.ensures) c.if-not-is_allowed.false

pub returns-then-not-is_allowed : goal.returns-then-not-is_allowed
returns-then-not-is_allowed c =
    passed_hit c.loop-m.invariant c.loop-m-test.true (rw (c.then_some.ensures, given-then_some, c.is_set.ensures, c.entry_or.ensures, c.place.ensures) at c.is_allowed.ensures) c.if-not-is_allowed.true

pub returns : goal.returns
returns c = passed_end c.loop-m.invariant c.loop-m.auto.m-end c.loop-m-test.false
