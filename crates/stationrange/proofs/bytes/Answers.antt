use mathlib.Core.Path.{refl}
use Rattle.laws.proofs.Turns.{tested_turn, tested_end}
use Rattle.stationrange.proofs.bytes.Goals as goal

pub loop-m-preserved : goal.loop-m-preserved
loop-m-preserved c = tested_turn c.loop-m.invariant refl refl

pub returns : goal.returns
returns c = tested_end c.loop-m.invariant c.loop-m.auto.m-end c.loop-m-test.false
