-- The entry of the part that is counted is the task that is seen, laid again (`looked_up`).
use Rattle.std.proofs.Common.{◌≡◌, refl, rules as needs}
use Rattle.rules.specs.Plan as rules
use Rattle.plan.specs.Memory.{task_laid, task_seen, seen, count_seen}
use Rattle.plan.proofs.Parts.{looked_up}
use Rattle.plan.proofs.look.task_at.Goals as goal

pub returns : goal.returns
unfolding task_laid task_seen seen count_seen rules.the_task
returns c =
    let p = c.args.p in
    let zero : c.default.result ≡ task_laid rules.no_task = search needs in
    rw (c.entry_or.ensures, zero)
    (looked_up task_seen task_laid (λ x. refl) rules.no_task refl (count_seen p 5) c.task_count.result p.tasks c.args.k
    c.task_count.ensures.0)
