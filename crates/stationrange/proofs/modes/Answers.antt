use mathlib.Core.Path.{refl}
use Rattle.laws.proofs.Turns.{tested_turn, tested_end}
use Rattle.stationrange.proofs.modes.Goals as goal

pub loop-mode-preserved : goal.loop-mode-preserved
loop-mode-preserved c = tested_turn c.loop-mode.invariant refl (rw c.from.ensures at c.thing-good.ensures)

pub returns : goal.returns
returns c = tested_end c.loop-mode.invariant c.loop-mode.auto.mode-end c.loop-mode-test.false
