-- Two exits, one law each: a file that is no table (`by_broken`), a table that is judged (`by_whole`).
use mathlib.Core.Path.{refl}
use Rattle.rules.specs.Records.{records, table_follows}
use Rattle.line.specs.Line.{drawing}
use Rattle.checker.proofs.Ways.{by_broken, by_whole}
use Rattle.checker.proofs.by_table.Goals as goal

pub returns-in-Broken : goal.returns-in-Broken
returns-in-Broken c =
    let a = c.args in
    by_broken (records table_follows 20 a.table.now) _ c.read_table-reading.ensures a.early_too (drawing a.line a.tasks.now a.releases.now a.deadlines.now) _ _ _ c.in-Broken.is c.refused.ensures

pub returns : goal.returns
returns c =
    let a = c.args in
    by_whole (records table_follows 20 a.table.now) _ c.read_table-reading.ensures a.early_too (drawing a.line a.tasks.now a.releases.now a.deadlines.now) _ _ c.in_default.is c.judge-answer.ensures refl

pub read_table-reading-requires : goal.read_table-reading-requires
read_table-reading-requires c = record { tasks_value = refl; deadlines_value = refl; starts_value = refl; stops_value = refl }
