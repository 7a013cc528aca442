use mathlib.Core.Path.{refl}
use Rattle.laws.proofs.Turns.{tested_turn, tested_end}
use Rattle.stationrange.specs.Ranges.{runs_test}
use Rattle.stationrange.proofs.runs.Goals as goal

pub loop-mode-preserved : goal.loop-mode-preserved
unfolding runs_test
loop-mode-preserved c = tested_turn c.loop-mode.invariant refl (c.runs_of-good.ensures)

pub returns : goal.returns
returns c = tested_end c.loop-mode.invariant c.loop-mode.auto.mode-end c.loop-mode-test.false
