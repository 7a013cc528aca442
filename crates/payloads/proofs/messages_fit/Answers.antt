use mathlib.Core.Path.{refl, ◌∙◌}
use Rattle.plan.specs.Memory.{seen, bus_seen, task_laid}
use Rattle.payloads.specs.Tests.{message_keeps}
use Rattle.payloads.proofs.Scans.{all_on, all_here, all_end, message_test}
use Rattle.payloads.proofs.Small.{size_of}
use Rattle.payloads.proofs.messages_fit.Goals as goal

pub loop-t-init : goal.loop-t-init
loop-t-init c = refl

pub returns-then-not-message_keeps : goal.returns-then-not-message_keeps
unfolding seen bus_seen task_laid
returns-then-not-message_keeps c =
    let q = seen c.args.p in
    let things = c.tasks-task-items in
    rw (← things.ensures.count.0)
    (all_here (message_keeps c.args.tasks q) _ _ c.loop-t-test.true
    (message_test _ q _ _ _ (size_of q things.result.now things.ensures.things c.loop-t.t c.loop-t-test.true) c.message_keeps.ensures ∙ c.if-not-message_keeps.true))

pub loop-t-preserved : goal.loop-t-preserved
unfolding seen bus_seen task_laid
loop-t-preserved c =
    let q = seen c.args.p in
    let things = c.tasks-task-items in
    all_on (message_keeps c.args.tasks q) _ c.loop-t.invariant
    (message_test _ q _ _ _ (size_of q things.result.now things.ensures.things c.loop-t.t c.loop-t-test.true) c.message_keeps.ensures ∙ c.if-not-message_keeps.false)

pub returns : goal.returns
returns c =
    rw (← c.tasks-task-items.ensures.count.0)
    (all_end (message_keeps c.args.tasks (seen c.args.p)) _ _ c.loop-t.invariant c.loop-t.auto.t-end c.loop-t-test.false)
