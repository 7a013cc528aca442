-- Three exits, one law each: too few rows (`way_few`), a plan that is refused (`way_plan`), what `by_table` promises (`way_table`);
-- `judge_ready` is what that requires.
use Rattle.checker.proofs.Ways.{judge_ready, way_few, way_plan, way_table}
use Rattle.checker.proofs.judged.Goals as goal

pub returns-then-lent-lt-MOST : goal.returns-then-lent-lt-MOST
returns-then-lent-lt-MOST c =
    let a = c.args in
    way_few a.plan.now a.table.now a.lent a.early_too _ _ _ _ _ c.if-lent-lt-MOST.true c.refused.ensures

pub returns-in-Err : goal.returns-in-Err
returns-in-Err c =
    let a = c.args in
    let lays = rw c.is_for_consumers.ensures at c.lay_out-laid.ensures in
    way_plan a.plan.now a.table.now a.lent a.early_too _ _ _ _ _ c.if-lent-lt-MOST.false c.lay_out-laid.result lays _ c.in-Err.is
    c.refused-in-Err.ensures

pub by_table-requires : goal.by_table-requires
by_table-requires c =
    let ready = judge_ready _ c.args.plan.now c.lay_out-laid.result c.lay_out-laid.ensures c.in-Ok.is in
    record { numbered = ready.0; controls_le_most_nodes = ready.1; starts_value = c.requires.1.1.1 }

pub returns-in-Ok : goal.returns-in-Ok
returns-in-Ok c =
    let a = c.args in
    let lays = rw c.is_for_consumers.ensures at c.lay_out-laid.ensures in
    way_table a.plan.now a.table.now a.lent a.early_too _ _ _ _ _ c.if-lent-lt-MOST.false c.lay_out-laid.result lays c.in-Ok.is
    c.by_table.ensures
