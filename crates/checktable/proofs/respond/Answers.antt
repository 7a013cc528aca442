-- Four exits, one law each: `long-plan`, `long-table`, `passed_response`, `refused_response`.
use native.Mathlib.Omega.{arith}
use Rattle.checktable.proofs.Answers.{long-plan, long-table, passed_response, refused_response}
use Rattle.checktable.proofs.respond.Goals as goal

pub returns-then-plan-gt65536 : goal.returns-then-plan-gt65536
returns-then-plan-gt65536 c =
    let all =
    let a = c.args in
    long-plan a.plan.now a.table.now a.out.now c.put_too_long.new.buf c.put_too_long.result _ _ c.if-plan-gt65536.true c.put_too_long.ensures c.refused.ensures in
    record { out_after = all.0; status_value = all.1.0; prefix_len = all.1.1 }

pub returns-then-table-gt65536 : goal.returns-then-table-gt65536
returns-then-table-gt65536 c =
    let all =
    let a = c.args in
    long-table a.plan.now a.table.now a.out.now c.put_too_long-then-table-gt65536.new.buf c.put_too_long-then-table-gt65536.result _ _ c.if-table-gt65536.true c.put_too_long-then-table-gt65536.ensures c.refused-then-table-gt65536.ensures in
    record { out_after = all.0; status_value = all.1.0; prefix_len = all.1.1 }

pub returns-in-Ok : goal.returns-in-Ok
returns-in-Ok c =
    let all =
    let a = c.args in
    passed_response a.plan.now a.table.now a.out.now c.put_passed.new.buf c.put_passed.result _ _ c.if-plan-gt65536.false c.if-table-gt65536.false _ c.check-checked.ensures.checks c.in-Ok.is c.put_passed.ensures c.done.ensures in
    record { out_after = all.0; status_value = all.1.0; prefix_len = all.1.1 }

pub returns-in-Err : goal.returns-in-Err
returns-in-Err c =
    let all =
    let a = c.args in
    refused_response a.plan.now a.table.now a.out.now c.put_refused.new.buf c.put_refused.result _ _ c.if-plan-gt65536.false c.if-table-gt65536.false _ c.check-checked.ensures.checks c.in-Err.why c.number.result c.place.result c.in-Err.is c.number.ensures c.place.ensures
    (omega arith) (omega arith) c.put_refused.ensures c.refused-in-Err.ensures in
    record { out_after = all.0; status_value = all.1.0; prefix_len = all.1.1 }
