-- Three exits: too long, made, refused; each is one law (`long_response`, `made_response`, `refused_response`).
use native.Mathlib.Omega.{arith}
use Rattle.bustable.proofs.Answers.{long_response, made_response, refused_response}
use Rattle.bustable.proofs.respond.Goals as goal

pub returns-then-plan-gt65536 : goal.returns-then-plan-gt65536
returns-then-plan-gt65536 c =
    let all =
    let a = c.args in
    long_response a.consumers a.plan.now a.out.now _ _ _ _ c.if-plan-gt65536.true c.put_too_long.ensures c.refused.ensures in
    record { out_after = all.0; status_value = all.1.0; prefix_len = all.1.1 }

pub returns-in-Ok : goal.returns-in-Ok
returns-in-Ok c =
    let all =
    let a = c.args in
    made_response a.consumers c.edition_of.result c.edition_of.ensures a.plan.now a.out.now _ _ c.if-plan-gt65536.false c.made-made.ensures.makes _ _ _
    c.in-Ok.is c.done.ensures in
    record { out_after = all.0; status_value = all.1.0; prefix_len = all.1.1 }

pub returns-in-Err : goal.returns-in-Err
returns-in-Err c =
    let all =
    let a = c.args in
    refused_response a.consumers c.edition_of.result c.edition_of.ensures a.plan.now a.out.now _ _ c.if-plan-gt65536.false c.made-made.ensures.makes
    _ _ _ _ _ _ _ c.in-Err.is c.number.ensures c.place.ensures (omega arith) (omega arith) c.put_refused.ensures c.refused-in-Err.ensures in
    record { out_after = all.0; status_value = all.1.0; prefix_len = all.1.1 }
