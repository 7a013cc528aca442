use native.Mathlib.Omega.{arith}
use Rattle.sheetreader.proofs.Gathering.{held_zero, gathering_few, line_less, gathering_none, gathering_turn, gathering_unreadable, gathering_sheet, gathering_short}
use borrow.Author.Rules.{rules}
use Rattle.sheetreader.proofs.gather.Goals as goal

pub loop-at-init : goal.loop-at-init
loop-at-init c =
    let p = c.requires in
    let e = c.default-held.ensures in
    rw (held_zero c.default-held.result e)
    (gathering_none p.control_nodes_value p.control_starts_value p.control_stops_value p.tasks_value p.deadlines_value p.starts_value p.stops_value)

pub overflow_add-line : goal.overflow_add-line
overflow_add-line c = omega (arith, c.loop-at.invariant.counted)

pub slice_bounds-line_said-end : goal.slice_bounds-line_said-end
slice_bounds-line_said-end c =
    let e = c.line_end-end.ensures.within.0 (omega arith) in
    search rules

pub returns-in_default : goal.returns-in_default
returns-in_default c =
    gathering_unreadable c.loop-at.invariant c.loop-at-test.true c.line_end-end.ensures.value c.line_said.ensures c.in_default.is

pub take-held-requires : goal.take-held-requires
take-held-requires c =
    gathering_few c.loop-at.invariant

pub loop-at-smaller : goal.loop-at-smaller
loop-at-smaller c =
    line_less c.args.text.now c.loop-at-test.true c.line_end-end.ensures.within.1 c.behind_end-at.ensures

pub loop-at-preserved : goal.loop-at-preserved
loop-at-preserved c =
    gathering_turn c.loop-at.invariant c.loop-at-test.true c.line_end-end.ensures.value c.line_said.ensures c.in-Some.is
    c.line_end-end.ensures.within c.behind_end-at.ensures c.take-held.ensures

pub returns-then-held-eq2 : goal.returns-then-held-eq2
returns-then-held-eq2 c =
    gathering_sheet c.loop-at.invariant c.loop-at-test.false c.if-held-eq2.true

pub overflow_add-result : goal.overflow_add-result
overflow_add-result c =
    omega (
      arith,
      c.loop-at.invariant.counted,
      c.loop-at.invariant.within,
      c.well_formed,
    )

pub returns : goal.returns
returns c =
    gathering_short c.loop-at.invariant c.loop-at-test.false c.if-held-eq2.false
