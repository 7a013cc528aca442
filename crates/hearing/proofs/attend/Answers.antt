use mathlib.Core.Path.{refl, sym, ◌∙◌}
use native.Mathlib.Nat.{min-le_left, min-le_right}
use native.Mathlib.Omega.{arith}
use lib.Seq.{length-take-le}
use Rattle.hearing.proofs.Coming.{at_most, further_by, none_left, between_none, between-read, between_turn, between_done, between-stop}
use Rattle.hearing.proofs.attend.Goals as goal

pub loop-lines-init : goal.loop-lines-init
loop-lines-init g c =
    (omega arith, omega arith, omega arith, between_none c.args.plan.now c.args.table.now c.unheard-heard.ensures, refl)

pub slice_bounds-line_end-end : goal.slice_bounds-line_end-end
slice_bounds-line_end-end g c =
    let a = min-le_left c.loop-lines.came 262144 in let b = min-le_right c.loop-lines.came 262144 in omega (arith, c.heard_part-heard_to.ensures, a, c.loop-lines.invariant.0)

pub slice_bounds-line_end-end-in-loop-lines : goal.slice_bounds-line_end-end-in-loop-lines
slice_bounds-line_end-end-in-loop-lines g c =
    let a = min-le_left c.loop-lines.came 262144 in let b = min-le_right c.loop-lines.came 262144 in sym (length-take-le _ _ (omega (arith, c.heard_part-heard_to.ensures, a, c.loop-lines.invariant.0)))

pub overflow_add-lines : goal.overflow_add-lines
overflow_add-lines g c =
    omega (arith, c.loop-lines.invariant.3.few, c.loop-lines.invariant.2)

pub slice_bounds-hear-count : goal.slice_bounds-hear-count
slice_bounds-hear-count g c = omega (arith, c.line_end-end.ensures.within.1)

pub shape_of-buf-then-is_stopped : goal.shape_of-buf-then-is_stopped
shape_of-buf-then-is_stopped g c =
    c.loop-lines.invariant.4

pub returns-then-is_stopped : goal.returns-then-is_stopped
returns-then-is_stopped g c =
    let a = min-le_left c.loop-lines.came 262144 in let b = min-le_right c.loop-lines.came 262144 in record { heard_value = (between-stop c.args.plan.now c.args.table.now (between_turn c.args.plan.now c.args.table.now c.loop-lines.invariant.3 (omega (arith, c.line_end-end.ensures.within.1, c.if-ended.true)) (omega (arith, c.heard_part-heard_to.ensures, a, c.loop-lines.invariant.0)) c.line_end-end.ensures.value c.if-ended.true refl c.in_ok-hear.ensures) c.loop-lines.came c.loop-lines.invariant.0 (omega (arith, c.heard_part-heard_to.ensures, a, c.if-ended.true)) (omega (arith, c.heard_part-heard_to.ensures, b, c.if-ended.true)) (sym c.is_stopped.ensures ∙ c.if-is_stopped.true)); within = c.loop-lines.invariant.0 }

pub overflow_add-at : goal.overflow_add-at
overflow_add-at g c =
    let a = min-le_left c.loop-lines.came 262144 in let b = min-le_right c.loop-lines.came 262144 in omega (arith, c.heard_part-heard_to.ensures, b, c.if-ended.true)

pub loop-lines-smaller-then-ended : goal.loop-lines-smaller-then-ended
loop-lines-smaller-then-ended g c =
    let a = min-le_left c.loop-lines.came 262144 in let b = min-le_right c.loop-lines.came 262144 in omega (arith, c.heard_part-heard_to.ensures, a, c.if-ended.true, c.line_end-end.ensures.within.1, c.loop-lines.invariant.0)

pub loop-lines-preserved-then-ended : goal.loop-lines-preserved-then-ended
loop-lines-preserved-then-ended g c =
    let a = min-le_left c.loop-lines.came 262144 in let b = min-le_right c.loop-lines.came 262144 in (c.loop-lines.invariant.0, (omega (arith, c.heard_part-heard_to.ensures, a, c.if-ended.true)), (omega (arith, c.heard_part-heard_to.ensures, b, c.if-ended.true)), between_turn c.args.plan.now c.args.table.now c.loop-lines.invariant.3 (omega (arith, c.line_end-end.ensures.within.1, c.if-ended.true)) (omega (arith, c.heard_part-heard_to.ensures, a, c.loop-lines.invariant.0)) c.line_end-end.ensures.value c.if-ended.true refl c.in_ok-hear.ensures, c.loop-lines.invariant.4)

pub slice_bounds-hear_end-end : goal.slice_bounds-hear_end-end
slice_bounds-hear_end-end g c =
    omega (arith, c.loop-lines.invariant.0, c.read_more.ensures.buf_unchanged.1)

pub slice_bounds-hear_end-end-then-length-came : goal.slice_bounds-hear_end-end-then-length-came
slice_bounds-hear_end-end-then-length-came g c =
    sym (length-take-le _ _ (omega (arith, c.loop-lines.invariant.0, c.read_more.ensures.buf_unchanged.1)))

pub hear_end-requires : goal.hear_end-requires
hear_end-requires g c =
    let l = length-take-le c.loop-lines.came c.read_more.new.buf (omega (arith, c.loop-lines.invariant.0, c.read_more.ensures.buf_unchanged.1)) in record { lines_bound = omega (arith, c.loop-lines.invariant.3.few, c.loop-lines.invariant.2); at_in_bounds = omega (arith, l, c.loop-lines.invariant.1) }

pub shape_of-buf-then-length-came : goal.shape_of-buf-then-length-came
shape_of-buf-then-length-came g c =
    c.read_more.ensures.buf_unchanged.1 ∙ c.loop-lines.invariant.4

pub returns-then-length-came : goal.returns-then-length-came
returns-then-length-came g c =
    let a = min-le_left c.loop-lines.came 262144 in
    let b = min-le_right c.loop-lines.came 262144 in
    let l = length-take-le c.loop-lines.came c.read_more.new.buf (omega (arith, c.loop-lines.invariant.0, c.read_more.ensures.buf_unchanged.1)) in
    record {
      heard_value = between_done c.args.plan.now c.args.table.now c.loop-lines.invariant.3 c.read_more.new.buf c.loop-lines.came
          c.read_more.ensures.buf_unchanged.0 c.loop-lines.invariant.0 (omega (arith, c.loop-lines.invariant.0, c.read_more.ensures.buf_unchanged.1))
          c.heard_part-heard_to.ensures (at_most c.heard_part-heard_to.ensures c.loop-lines.invariant.1 c.loop-lines.invariant.2)
          (none_left c.line_end-end.ensures.value c.if-ended.false) (sym l) c.in_ok-hear_end.ensures;
      within = omega (arith, c.loop-lines.invariant.0, c.read_more.ensures.buf_unchanged.1);
    }

pub loop-lines-smaller : goal.loop-lines-smaller
loop-lines-smaller g c =
    let r = c.in_ok-length.ensures.more in let further = further_by r.0 c.if-length-came.false in let w = r.1 (omega (arith, c.loop-lines.invariant.0, c.read_more.ensures.buf_unchanged.1)) in omega (arith, further, w, c.loop-lines.invariant.0, c.loop-lines.invariant.1, c.read_more.ensures.buf_unchanged.1)

pub loop-lines-preserved : goal.loop-lines-preserved
loop-lines-preserved g c =
    let r = c.in_ok-length.ensures.more in (r.1 (omega (arith, c.loop-lines.invariant.0, c.read_more.ensures.buf_unchanged.1)), omega (arith, r.0, c.loop-lines.invariant.1), c.loop-lines.invariant.2, between-read c.args.plan.now c.args.table.now c.loop-lines.invariant.3 c.read_more.new.buf c.loop-lines.came c.loop-lines.invariant.1 c.read_more.ensures.buf_unchanged.0, c.read_more.ensures.buf_unchanged.1 ∙ c.loop-lines.invariant.4)
