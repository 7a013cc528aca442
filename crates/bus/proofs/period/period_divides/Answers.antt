-- Whether P divides the grid is told from the periods of the runs (`periods-divide`).
use mathlib.Core.Path.{sym, ◌∙◌}
use native.Mathlib.Omega.{arith}
use Rattle.bus.proofs.Multiples.{periods-divide}
use Rattle.bus.proofs.period.period_divides.Goals as goal

pub returns : goal.returns
returns c = c.all_divide.ensures ∙ sym (periods-divide c.args.runs c.args.grid.0 (omega arith))
