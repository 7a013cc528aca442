use Rattle.laws.proofs.Turns.{passed_none, passed_turn, passed_hit, passed_end}
use Rattle.starting.proofs.wrong_start.Goals as goal

pub loop-m-init : goal.loop-m-init
loop-m-init c = passed_none

pub loop-m-preserved : goal.loop-m-preserved
loop-m-preserved c = passed_turn c.loop-m.invariant c.starts_well.ensures c.if-not-starts_well.false

pub returns-then-not-starts_well : goal.returns-then-not-starts_well
returns-then-not-starts_well c = passed_hit c.loop-m.invariant c.loop-m-test.true c.starts_well.ensures c.if-not-starts_well.true

pub returns : goal.returns
returns c = passed_end c.loop-m.invariant c.loop-m.auto.m-end c.loop-m-test.false
