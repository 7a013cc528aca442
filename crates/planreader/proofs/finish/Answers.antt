-- By the test whether the end record may stand (`finish_plan`, `finish_short`).
use Rattle.planreader.proofs.Sayings.{finish_plan, finish_short}
use Rattle.planreader.proofs.finish.Goals as goal

pub returns-then-not-plan_follows : goal.returns-then-not-plan_follows
returns-then-not-plan_follows c =
    let a = c.args in
    let h = finish_short a.last.kind a.line a.last.end a.out.now c.plan_follows.ensures c.if-not-plan_follows.true c.why_not.ensures in
    record { value = h.0; out_after = h.1 }

pub returns : goal.returns
returns c =
    let a = c.args in
    let h = finish_plan a.last.kind a.line a.last.end a.out.now c.plan_follows.ensures c.if-not-plan_follows.false c.put8.ensures in
    record { value = h.0; out_after = h.1 }
