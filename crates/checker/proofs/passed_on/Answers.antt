-- Two exits, one law each: a refusal (`on_refused`), a table that passes (`on_passed`); `judge_ready` is what `by_table` requires.
use mathlib.Core.Path.{refl}
use Rattle.checker.proofs.Handing.{judge_ready, on_refused, on_passed}
use Rattle.checker.proofs.passed_on.Goals as goal

pub by_table-judged-requires : goal.by_table-judged-requires
by_table-judged-requires c =
    let a = c.args in
    let ready = judge_ready a.p a.line a.tasks.now a.releases.now a.deadlines.now c.requires.p_value in
    record { numbered = ready.0; controls_le_most_nodes = ready.1; starts_value = c.requires.starts_value }

pub returns-in-Err : goal.returns-in-Err
returns-in-Err c =
    let a = c.args in
    on_refused a.p a.line a.tasks.now a.releases.now a.deadlines.now c.requires.p_value a.table.now _ _ _ _ _ _
    c.by_table-judged.ensures _ c.in-Err.is c.taken_back.ensures.value c.taken_back.ensures.tasks_after

pub returns-in-Ok : goal.returns-in-Ok
returns-in-Ok c =
    let a = c.args in
    on_passed a.p a.line a.tasks.now a.releases.now a.deadlines.now c.requires.p_value a.table.now _ _ _ _ _ _
    c.by_table-judged.ensures c.in-Ok.is refl refl refl refl
