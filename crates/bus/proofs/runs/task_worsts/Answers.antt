-- What `fill` promises, of tasks as they are seen (`filled_seen`).
use mathlib.Core.Path.{refl}
use native.Mathlib.Omega.{arith}
use Rattle.std.proofs.Common.{rules}
use Rattle.plan.specs.Memory.{task_seen}
use Rattle.rules.specs.Plan.{Task, no_task, the_task}
use Rattle.bus.specs.Runs.{task_worst}
use Rattle.bus.proofs.Marking.{filled_seen}
use Rattle.bus.proofs.runs.task_worsts.Goals as goal

pub returns : goal.returns
unfolding task_worst the_task task_seen
returns c = filled_seen task_seen (λ (x : Task). x.worst) no_task refl c.tasks.ensures.things (omega (arith, c.tasks.ensures.count.1)) c.fill.ensures (λ i d v w said. search rules)
