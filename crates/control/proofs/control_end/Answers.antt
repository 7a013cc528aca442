use mathlib.Core.Path.{◌≡◌, refl, sym, ◌∙◌}
use native.Mathlib.Omega.{arith}
use Rattle.plan.specs.Memory.{seen, count_seen}
use Rattle.rules.specs.Traffic.{sending_nodes}
use Rattle.rules.specs.Frames.{control_end, gap_time, control_rows, control_from}
use Rattle.control.proofs.Turns.{rows_to, nodes_to, next_start}
use Rattle.control.proofs.Turns.{next_at, stop_at, sends_yes, sends_no, time-is, next_yes, next_no, stop_yes, stop_no}
use Rattle.control.proofs.control_end.Goals as goal
use Rattle.control.proofs.control_end.Goals.{then-payloads-n-gt0, else-payloads-n-gt0}

pub loop-n-init : goal.loop-n-init
unfolding seen count_seen next_at stop_at next_start rows_to nodes_to control_from
loop-n-init c = (omega arith, c.requires.p_bound, refl, refl, omega arith, omega arith)

pub loop-n-preserved : goal.loop-n-preserved
loop-n-preserved c =
    let c1 = c.before in
    let s = c1 in
    let q = seen s.args.p in
    let l = c.loop-n in
    let t = s.requires.payloads_value in
    let gap : c.gap_time-gap.result.0 ≡ gap_time q.bus = unfold seen in c.gap_time-gap.ensures.0 in
    elim c.if-payloads-n-gt0.branch [
      | then-payloads-n-gt0 w ↦
          let y = sends_yes q l.n t (omega arith) w.if-payloads-n-gt0.true in
          let time = time-is q l.n t (omega arith) w.from.ensures w.control_time.ensures.0 in (
            omega arith,
            l.invariant.1,
            w.next-is ∙ rw (l.invariant.2, time, gap) (sym (next_yes q l.n y)),
            w.stop-is ∙ rw (l.invariant.2, time) (sym (stop_yes q l.n y)),
            omega (arith, w.next-is, w.control_time.ensures.1),
            omega (arith, w.stop-is, w.control_time.ensures.1),
          )
      | else-payloads-n-gt0 w ↦
          let y = sends_no q l.n t (omega arith) w.if-payloads-n-gt0.false in (
            omega arith,
            l.invariant.1,
            w.next-is ∙ l.invariant.2 ∙ sym (next_no q l.n y),
            w.stop-is ∙ l.invariant.3 ∙ sym (stop_no q l.n y),
            omega (arith, w.next-is),
            omega (arith, w.stop-is),
          )
    ]

pub returns : goal.returns
unfolding seen count_seen control_end control_rows sending_nodes stop_at rows_to nodes_to
returns c =
    let c1 = c.before in
    let e : c.loop-n.n ≡ (seen c1.args.p).nodes = omega arith in
    rw (c.loop-n.invariant.3, c1.gap_time-gap.ensures.0, e)

pub bounds-payloads-n : goal.bounds-payloads-n
bounds-payloads-n c = omega arith

pub bounds-payloads-n-then-payloads-n-gt0 : goal.bounds-payloads-n-then-payloads-n-gt0
bounds-payloads-n-then-payloads-n-gt0 c = omega arith

pub overflow_add-stop : goal.overflow_add-stop
overflow_add-stop c = omega arith

pub overflow_add-next : goal.overflow_add-next
overflow_add-next c = omega arith

pub overflow_add-result : goal.overflow_add-result
overflow_add-result c = omega arith
