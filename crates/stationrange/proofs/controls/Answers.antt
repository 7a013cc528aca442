use mathlib.Core.Path.{refl}
use Rattle.laws.proofs.Turns.{tested_turn, tested_end}
use Rattle.stationrange.proofs.controls.Goals as goal

pub loop-row-preserved : goal.loop-row-preserved
loop-row-preserved c = tested_turn c.loop-row.invariant refl (c.control_row-good.ensures)

pub returns : goal.returns
returns c = tested_end c.loop-row.invariant c.loop-row.auto.row-end c.loop-row-test.false
