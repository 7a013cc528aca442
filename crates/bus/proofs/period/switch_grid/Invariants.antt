-- Invariant: the grid is that of the first i modes (`grid_among`); each turn is `grid_turn`, and `take_all` makes them all.
use mathlib.Core.Path.{◌≡◌}
use lib.ListN.{take}
use Rattle.plan.specs.Memory.{seen}
use Rattle.bus.specs.Period.{grid_among}
use Rattle.bus.proofs.period.switch_grid.Given as goal

abbrev pub invariant-loop-mode : goal.invariant-loop-mode
invariant-loop-mode l = (l.grid.0 ≡ grid_among l.marks (take l.mode-index (seen l.fn.p).modes))
