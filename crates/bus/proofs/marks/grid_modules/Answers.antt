-- The edition decides which marks are meant (`grid-marks`).
use mathlib.Core.Path.{◌∙◌}
use mathlib.Core.Bool.{true, false}
use Rattle.plan.specs.Memory.{seen}
use Rattle.bus.proofs.Marked.{grid-marks}
use Rattle.bus.proofs.marks.grid_modules.Goals as goal

pub returns-then-p : goal.returns-then-p
unfolding seen
returns-then-p c = c.end_modules.ensures ∙ grid-marks (seen c.args.p) true c.if-p.true

pub returns-else-p : goal.returns-else-p
unfolding seen
returns-else-p c =
    let start = c.before in
    start.requires ∙ grid-marks (seen start.args.p) false c.if-p.false
