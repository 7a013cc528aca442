use mathlib.Core.Path.{refl}
use Rattle.laws.proofs.Turns.{tested_turn, tested_end}
use Rattle.stationrange.proofs.boxes.Goals as goal

pub loop-t-preserved : goal.loop-t-preserved
loop-t-preserved c = tested_turn c.loop-t.invariant refl (cc)

pub returns : goal.returns
returns c = tested_end c.loop-t.invariant c.loop-t.auto.t-end c.loop-t-test.false
