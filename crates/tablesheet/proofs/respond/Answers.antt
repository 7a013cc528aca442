-- Three exits, one law each: `long-plan`, `long-table`, `written_response`.
use mathlib.Core.Path.{refl}
use Rattle.tablesheet.proofs.Answers.{long-plan, long-table, written_response}
use Rattle.tablesheet.proofs.respond.Goals as goal

pub returns-then-plan-gt65536 : goal.returns-then-plan-gt65536
returns-then-plan-gt65536 c =
    let all =
    let a = c.args in
    long-plan a.plan.now a.table.now a.out.now _ _ _ _ c.if-plan-gt65536.true c.put_too_long.ensures c.refused.ensures in
    record { out_after = all.0; status_value = all.1.0; prefix_len = all.1.1 }

pub returns-then-table-gt65536 : goal.returns-then-table-gt65536
returns-then-table-gt65536 c =
    let all =
    let a = c.args in
    long-table a.plan.now a.table.now a.out.now _ _ _ _ c.if-table-gt65536.true c.put_too_long-then-table-gt65536.ensures c.refused-then-table-gt65536.ensures in
    record { out_after = all.0; status_value = all.1.0; prefix_len = all.1.1 }

pub returns : goal.returns
returns c =
    let all =
    let a = c.args in
    written_response a.plan.now a.table.now a.out.now _ _ _ _ c.if-plan-gt65536.false c.if-table-gt65536.false _ c.write-written.ensures.writes c.write-written.ensures.few refl c.ending.ensures in
    record { out_after = all.0; status_value = all.1.0; prefix_len = all.1.1 }
