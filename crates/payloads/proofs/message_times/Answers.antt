use Rattle.laws.proofs.Loops.{stores-none, stores_turn}
use Rattle.plan.specs.Memory.{seen, task_laid}
use Rattle.payloads.specs.Tests.{task_time}
use Rattle.payloads.proofs.Small.{size_of, no_time-small, time-small, time-of, times-stored}
use Rattle.payloads.proofs.message_times.Goals as goal

pub overflow_cast-none : goal.overflow_cast-none
unfolding seen task_laid
overflow_cast-none c =
    record { fits = no_time-small (seen c.args.p) c.requires _ c.sending_time-none.ensures.0 }

pub loop-t-init : goal.loop-t-init
loop-t-init c = stores-none _ (task_time (seen c.args.p))

pub overflow_cast-times : goal.overflow_cast-times
unfolding seen task_laid
overflow_cast-times c =
    let q = seen c.args.p in
    let things = c.tasks-task-items in
    record { fits = time-small q c.requires _ _ _ (size_of q things.result.now things.ensures.things c.loop-t.t c.loop-t-test.true) c.sending_time.ensures.0 }

pub loop-t-preserved : goal.loop-t-preserved
unfolding seen task_laid
loop-t-preserved c =
    let q = seen c.args.p in
    let things = c.tasks-task-items in
    stores_turn _ (task_time q) _ c.loop-t.invariant
    (time-of q _ _ _ (size_of q things.result.now things.ensures.things c.loop-t.t c.loop-t-test.true) c.sending_time.ensures.0)

pub returns : goal.returns
unfolding seen task_laid
returns c =
    let things = c.tasks-task-items in
    times-stored (seen c.args.p) _ _ _ _ c.sending_time-none.ensures.0 things.ensures.count.0
    things.ensures.count.1 c.loop-t.invariant c.loop-t.auto.t-end c.loop-t-test.false
