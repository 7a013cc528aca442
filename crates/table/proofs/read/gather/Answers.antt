use mathlib.Core.Path.{sym}
use native.Mathlib.Omega.{arith}
use Rattle.rules.specs.Records.{kinds, fields, body_length, records}
use Rattle.records.proofs.Steps.{from}
use Rattle.table.specs.Memory.{reported}
use Rattle.table.proofs.Gathering.{rows_less, controls_less, record_less, row_less}
use Rattle.table.proofs.Gathering.{row_fits, control-fits, header-fits, row_turn, control_turn, header_turn, end_turn, wrong_turn}
use borrow.Author.Rules.{rules}
use Rattle.table.proofs.read.gather.Goals as goal

pub loop-kind-init : goal.loop-kind-init
unfolding from records
loop-kind-init c = record { inside = search rules; counted = search rules; gathered = rw c.empty-head.ensures }

pub data_row-requires : goal.data_row-requires
unfolding body_length fields kinds
data_row-requires c =
    row_fits c.loop-kind.invariant c.next.ensures c.in-Record.is c.if-kind-eq-KIND.true

pub overflow_add-rows : goal.overflow_add-rows
overflow_add-rows c =
    let n = rows_less c.loop-kind.invariant c.next.ensures c.in-Record.is in
    omega (arith, n, c.well_formed)

pub overflow_add-at : goal.overflow_add-at
unfolding body_length fields kinds
overflow_add-at c =
    let n = row_fits c.loop-kind.invariant c.next.ensures c.in-Record.is c.if-kind-eq-KIND.true in
    omega (arith, n, c.well_formed)

pub control_row-requires : goal.control_row-requires
unfolding body_length fields kinds
control_row-requires c =
    control-fits c.loop-kind.invariant c.next.ensures c.in-Record.is c.if-kind-eq-KIND-2.true

pub overflow_add-controls : goal.overflow_add-controls
overflow_add-controls c =
    let n = controls_less c.loop-kind.invariant c.next.ensures c.in-Record.is in
    omega (arith, n, c.well_formed)

pub first_record-head-requires : goal.first_record-head-requires
unfolding body_length fields kinds
first_record-head-requires c =
    header-fits c.loop-kind.invariant c.next.ensures c.in-Record.is c.if-kind-eq-KIND.false
    c.if-kind-eq-KIND-2.false

pub loop-kind-smaller-then-kind-eq-KIND : goal.loop-kind-smaller-then-kind-eq-KIND
unfolding body_length fields kinds
loop-kind-smaller-then-kind-eq-KIND c =
    row_less c.loop-kind.invariant c.next.ensures c.in-Record.is c.if-kind-eq-KIND.true

pub loop-kind-preserved-then-kind-eq-KIND : goal.loop-kind-preserved-then-kind-eq-KIND
unfolding body_length fields kinds
loop-kind-preserved-then-kind-eq-KIND c =
    row_turn c.loop-kind.invariant c.next.ensures c.in-Record.is c.if-kind-eq-KIND.true
    c.data_row.ensures.tasks_after c.data_row.ensures.deadlines_after c.data_row.ensures.starts_after c.data_row.ensures.stops_after

pub loop-kind-smaller-then-kind-eq-KIND-2 : goal.loop-kind-smaller-then-kind-eq-KIND-2
loop-kind-smaller-then-kind-eq-KIND-2 c =
    record_less c.loop-kind.invariant c.next.ensures c.in-Record.is

pub loop-kind-preserved-then-kind-eq-KIND-2 : goal.loop-kind-preserved-then-kind-eq-KIND-2
loop-kind-preserved-then-kind-eq-KIND-2 c =
    control_turn c.loop-kind.invariant c.next.ensures c.in-Record.is c.if-kind-eq-KIND-2.true
    c.control_row.ensures.nodes_after c.control_row.ensures.starts_after c.control_row.ensures.stops_after

pub loop-kind-smaller : goal.loop-kind-smaller
loop-kind-smaller c =
    record_less c.loop-kind.invariant c.next.ensures c.in-Record.is

pub loop-kind-preserved : goal.loop-kind-preserved
loop-kind-preserved c =
    header_turn c.loop-kind.invariant c.next.ensures c.in-Record.is
    c.if-kind-eq-KIND.false c.if-kind-eq-KIND-2.false c.first_record-head.ensures

pub returns-in-End : goal.returns-in-End
unfolding reported
returns-in-End c = sym (end_turn c.loop-kind.invariant c.next.ensures c.in-End.is)

pub returns-in-Wrong : goal.returns-in-Wrong
unfolding reported
returns-in-Wrong c =
    sym (wrong_turn c.loop-kind.invariant c.next.ensures c.in-Wrong.is)
