-- The marked tasks are those whose runs P takes in (`counted-period`).
use Rattle.plan.specs.Memory.{seen}
use Rattle.line.proofs.Cycle.{counted-period}
use Rattle.line.proofs.counted_runs.Goals as goal

pub returns : goal.returns
returns c = (c.of.ensures.1, counted-period (seen c.args.p) c.requires.0 _ c.counted_tasks-counted.ensures _ c.of.ensures.0)
