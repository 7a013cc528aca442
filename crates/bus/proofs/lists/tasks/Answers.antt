-- As many are lent as the plan has (`front-seen`).
use native.Mathlib.Omega.{arith}
use mathlib.Core.Path.{ap, sym, ◌∙◌}
use lib.ListN.{length, length-map, length-take}
use Rattle.plan.specs.Memory.{seen, count_seen, task_seen}
use Rattle.bus.proofs.Fronts.{front-seen}
use Rattle.bus.proofs.lists.tasks.Goals as goal

pub returns : goal.returns
unfolding seen
returns c =
    let s = front-seen task_seen (count_seen c.args.p.now 5) _ c.args.p.now.tasks c.task_count.ensures.0 in
    record { things = s; count = (sym (length-map _ task_seen) ∙ ap length s, omega (arith, length-take c.task_count.result c.args.p.now.tasks)) }
