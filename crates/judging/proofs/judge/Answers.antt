-- Three exits: `wrong-header`, `strange_control`, `same-controls`; the header's test gives the counts that `by_rows` requires.
use mathlib.Core.Path.{refl}
use native.Mathlib.Omega.{arith}
use Rattle.laws.specs.Lists.{first_bad, up_to}
use Rattle.laws.proofs.Loops.{first_bad-up_to-within}
use Rattle.line.specs.Line.{drawing}
use Rattle.table.specs.Memory.{table_with}
use Rattle.table.specs.Rows.{control_in}
use Rattle.judging.specs.Judged.{controls_same, time_in, controls_on, frames_on, bounds_on, line_judged}
use Rattle.judging.proofs.Verdicts.{spot_at, wrong-header, control-count, row_count, strange_control, same-controls}
use Rattle.judging.proofs.judge.Goals as goal

pub returns-then-not-header_right : goal.returns-then-not-header_right
unfolding line_judged controls_on frames_on bounds_on
returns-then-not-header_right c =
    let a = c.args in
    let l = drawing a.line a.tasks.now a.releases.now a.deadlines.now in
    wrong-header l.tasks l.releases l.deadlines l.frames (time_in l.times) l.control_nodes l.control_starts
    l.control_stops l.controls (bounds_on l)
    (table_with a.heading a.row_tasks.now a.row_deadlines.now a.row_starts.now a.row_stops.now)
    c.header_right.ensures (c.if-not-header_right.true) refl

pub first_strange-requires : goal.first_strange-requires
first_strange-requires c = c.requires.controls_le_most_nodes

pub overflow_add-result : goal.overflow_add-result
overflow_add-result c =
    let a = c.args in
    let same = controls_same (control_in a.heading.control_nodes a.heading.control_starts a.heading.control_stops)
    (control_in a.line.control_nodes a.line.control_starts a.line.control_stops) in
    let e = spot_at (first_bad same (up_to a.line.controls)) c.first_strange.ensures c.in-Some.is in
    let w = first_bad-up_to-within same a.line.controls c.in-Some.k e in
    omega (arith, w, c.requires.controls_le_most_nodes)

pub returns-in-Some : goal.returns-in-Some
unfolding line_judged controls_on frames_on bounds_on
returns-in-Some c =
    let a = c.args in
    let l = drawing a.line a.tasks.now a.releases.now a.deadlines.now in
    strange_control l.tasks l.releases l.deadlines l.frames (time_in l.times) l.control_nodes l.control_starts
    l.control_stops l.controls (bounds_on l)
    (table_with a.heading a.row_tasks.now a.row_deadlines.now a.row_starts.now a.row_stops.now)
    c.header_right.ensures (c.if-not-header_right.false) c.first_strange.ensures c.in-Some.is refl

pub by_rows-requires : goal.by_rows-requires
unfolding line_judged controls_on frames_on bounds_on
by_rows-requires c =
    let a = c.args in
    let l = drawing a.line a.tasks.now a.releases.now a.deadlines.now in
    let t = table_with a.heading a.row_tasks.now a.row_deadlines.now a.row_starts.now a.row_stops.now in
    let controls = control-count l.tasks l.releases l.deadlines l.frames (time_in l.times) l.control_nodes l.control_starts
    l.control_stops l.controls (bounds_on l) t c.header_right.ensures (c.if-not-header_right.false) in
    let rows = row_count l.tasks l.releases l.deadlines l.frames (time_in l.times) l.control_nodes l.control_starts
    l.control_stops l.controls (bounds_on l) t c.header_right.ensures (c.if-not-header_right.false) in
    record {
      numbered = c.requires.numbered;
      controls_le_most_nodes = omega (arith, controls, c.requires.controls_le_most_nodes);
      rows_value = rows;
      starts_value = c.requires.starts_value;
    }

pub returns : goal.returns
unfolding line_judged controls_on frames_on bounds_on
returns c =
    let a = c.args in
    let l = drawing a.line a.tasks.now a.releases.now a.deadlines.now in
    same-controls l.tasks l.releases l.deadlines l.frames (time_in l.times) l.control_nodes l.control_starts
    l.control_stops l.controls (bounds_on l)
    (table_with a.heading a.row_tasks.now a.row_deadlines.now a.row_starts.now a.row_stops.now)
    c.header_right.ensures (c.if-not-header_right.false) c.first_strange.ensures c.in_default.is c.by_rows.ensures
