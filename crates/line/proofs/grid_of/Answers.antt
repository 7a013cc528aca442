-- The marked modules are those whose modes G takes in (`grid-given`).
use mathlib.Core.Path.{◌∙◌, ap}
use Rattle.plan.specs.Memory.{seen}
use Rattle.bus.specs.Period.{grid_marked}
use Rattle.bus.proofs.Marked.{grid-given}
use Rattle.line.proofs.grid_of.Goals as goal

pub returns : goal.returns
returns c =
    let p = seen c.args.p in
    c.switch_grid.ensures ∙ ap (grid_marked p) c.grid_modules-taken.ensures ∙ grid-given p c.requires.0
