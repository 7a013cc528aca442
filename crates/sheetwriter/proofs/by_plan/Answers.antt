-- A table that does not read as records (`on_broken`), else what `printed` prints of the judgement (`on_rows`).
use mathlib.Core.Path.{refl}
use native.Mathlib.Omega.{arith}
use Rattle.sheetwriter.proofs.Ways.{judge_ready, on_broken, on_rows}
use Rattle.sheetwriter.proofs.by_plan.Goals as goal

pub returns-in-Broken : goal.returns-in-Broken
returns-in-Broken c =
    let a = c.args in
    let h = on_broken a.p a.line a.tasks.now a.releases.now a.deadlines.now a.table.now c.requires _ c.read_table-reading.ensures _ _ _ _ c.in-Broken.is (c.refused.ensures.prints, c.refused.ensures.few) in
    record { prints = h.0; few = h.1 }

pub judge-answer-requires : goal.judge-answer-requires
judge-answer-requires c =
    let a = c.args in
    let ready = judge_ready a.p a.line a.tasks.now a.releases.now a.deadlines.now a.table.now c.requires in
    record { numbered = ready.0; controls_le_most_nodes = ready.1; starts_value = refl }

pub numbers-requires : goal.numbers-requires
numbers-requires c =
    let a = c.args in
    let ready = judge_ready a.p a.line a.tasks.now a.releases.now a.deadlines.now a.table.now c.requires in
    record { numbered = ready.0; rows_le_most_frames = omega (arith, c.min.ensures); found_value = refl }

pub returns : goal.returns
returns c =
    let a = c.args in
    let h = on_rows a.p a.line a.tasks.now a.releases.now a.deadlines.now a.table.now c.requires _ c.read_table-reading.ensures _ _ _ c.in_default.is _
    c.judge-answer.ensures c.min.ensures c.numbers.ensures (c.printed.ensures.prints, c.printed.ensures.few) in
    record { prints = h.0; few = h.1 }

pub read_table-reading-requires : goal.read_table-reading-requires
read_table-reading-requires c = record { tasks_value = refl; deadlines_value = refl; starts_value = refl; stops_value = refl }
