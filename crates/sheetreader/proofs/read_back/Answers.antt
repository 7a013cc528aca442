-- Two cases of what was gathered: why there is no table (`refused_back`), or the table of what was read (`sheet_back`).
use Rattle.std.proofs.Common.{false}
use Rattle.std.proofs.lemmas.Result.{err_from_is_err_and}
use Rattle.sheetreader.specs.Memory.{laid}
use Rattle.sheetreader.proofs.Bytes.{refused_back, sheet_back, sheet-few}
use Rattle.sheetreader.proofs.read_back.Goals as goal

pub returns-in_err-held-clause-value : goal.returns-in_err-held-clause-value
returns-in_err-held-clause-value c =
    let l = c.gather.new in
    let m = laid (record { stage = 0; consumers = false; period = record { 0 = 0 }; controls = 0; rows = 0 }) l.control_nodes l.control_starts l.control_stops l.tasks l.deadlines l.starts l.stops in
    let exit = err_from_is_err_and c.from_residual.result c.from_residual.ensures.1 in
    rw (exit.1, exit.2) (refused_back m c.args.text.now c.gather.ensures (c.in_err-held.was {u = tt}) c.args.table.now).0

pub returns-in_err-held-clause-table_after : goal.returns-in_err-held-clause-table_after
returns-in_err-held-clause-table_after c =
    let l = c.gather.new in
    let m = laid (record { stage = 0; consumers = false; period = record { 0 = 0 }; controls = 0; rows = 0 }) l.control_nodes l.control_starts l.control_stops l.tasks l.deadlines l.starts l.stops in
    (refused_back m c.args.text.now c.gather.ensures (c.in_err-held.was {u = tt}) c.args.table.now).1

pub written-requires : goal.written-requires
written-requires c =
    let l = c.gather.new in
    let m = laid c.in_ok-held.held l.control_nodes l.control_starts l.control_stops l.tasks l.deadlines l.starts l.stops in
    sheet-few m c.args.text.now c.gather.ensures (c.in_ok-held.was {u = tt})

pub returns-clause-value : goal.returns-clause-value
returns-clause-value c =
    let l = c.gather.new in
    let m = laid c.in_ok-held.held l.control_nodes l.control_starts l.control_stops l.tasks l.deadlines l.starts l.stops in
    rw (← sheet_back m c.args.text.now c.gather.ensures (c.in_ok-held.was {u = tt})) c.written.ensures.value

pub returns-clause-table_after : goal.returns-clause-table_after
returns-clause-table_after c =
    let l = c.gather.new in
    let m = laid c.in_ok-held.held l.control_nodes l.control_starts l.control_stops l.tasks l.deadlines l.starts l.stops in
    rw (← sheet_back m c.args.text.now c.gather.ensures (c.in_ok-held.was {u = tt})) c.written.ensures.table_after
