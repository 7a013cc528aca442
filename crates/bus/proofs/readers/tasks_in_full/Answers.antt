-- The edition decides: `in_full`, `all_in_full`.
use mathlib.Core.Path.{◌∙◌}
use Rattle.plan.specs.Memory.{seen}
use Rattle.bus.proofs.Rows.{in_full, all_in_full}
use Rattle.bus.proofs.readers.tasks_in_full.Goals as goal

pub returns-then-p : goal.returns-then-p
unfolding seen
returns-then-p c = c.full_tasks.ensures ∙ in_full (seen c.args.p) c.if-p.true

pub returns-else-p : goal.returns-else-p
unfolding seen
returns-else-p c = all_in_full (seen c.args.p) c.if-p.false
