use native.Mathlib.Omega.{arith}
use mathlib.Core.Path.{◌≡◌}
use Prim.Native.Nat.{◌+◌, ◌^◌, ◌≤◌, ◌<◌}
use Rattle.plan.specs.Memory.{seen, count_seen}
use Rattle.rules.specs.Traffic.{sending_nodes}
use Rattle.rules.specs.Frames.{control_end, control_rows}
use Rattle.control.specs.Control.{control_laid}
use Rattle.control.proofs.Turns.{
  Shown,
  time_of,
  rows_to,
  nodes_to,
  sends_yes,
  sends_no,
  time-is,
  shown-none,
  shown-few,
  shown-fits,
  shown_more,
  shown-kept,
}
use Rattle.control.proofs.control_rows.Goals as goal
use Rattle.control.proofs.control_rows.Goals.{then-payloads-n-gt0, else-payloads-n-gt0}
use Prim.Native.Nat.{ℕ}
use mathlib.Core.List.{List}
use lib.ListN.{get_or}
use Rattle.rules.specs.Plan.{Plan}
use Rattle.rules.specs.Traffic.{control_payload}
use Rattle.rules.specs.Frames.{sending_time}
use Rattle.bus.specs.Senders.{by_number}

-- a control frame that is made stops by C, and C fits
stops : (q : Plan) {k count start x v : ℕ} {nodes starts stops payloads : List ℕ}
    → Shown q k count start nodes starts stops
    → payloads ≡ by_number (control_payload q)
    → k < 256
    → k < q.nodes
    → 0 < get_or payloads k 0
    → x ≡ get_or payloads k 0
    → v ≡ sending_time q.bus x
    → control_end q < 2 ^ 32
    → start + v < 2 ^ 32
stops q {k = k} {start = start} h t below w sends x v fits =
    let y = sends_yes q k t below sends in
    let time = time-is q k t below x v in
    let z : start + time_of q k ≤ control_end q = shown-fits q h y w in
    omega (arith, time)

pub loop-n-init : goal.loop-n-init
unfolding seen count_seen
loop-n-init c = (omega arith, c.requires.p_bound, shown-none (seen c.args.p))

pub overflow_add-stop : goal.overflow_add-stop
unfolding seen count_seen
overflow_add-stop c = omega (arith, stops (seen c.args.p) c.loop-n.invariant.2 c.requires.payloads_value (omega arith) (omega arith) c.if-payloads-n-gt0.true c.from.ensures c.control_time.ensures.0 c.requires.p_bound_2)

pub bounds-nodes-count : goal.bounds-nodes-count
bounds-nodes-count c = omega (arith, shown-few (seen c.args.p) c.loop-n.invariant.2)

pub overflow_cast-starts : goal.overflow_cast-starts
unfolding seen count_seen
overflow_cast-starts c = omega (arith, stops (seen c.args.p) c.loop-n.invariant.2 c.requires.payloads_value (omega arith) (omega arith) c.if-payloads-n-gt0.true c.from.ensures c.control_time.ensures.0 c.requires.p_bound_2)

pub offset_bounds-starts-count : goal.offset_bounds-starts-count
offset_bounds-starts-count c = omega (arith, shown-few (seen c.args.p) c.loop-n.invariant.2)

pub bounds-starts-count : goal.bounds-starts-count
bounds-starts-count c = omega (arith, shown-few (seen c.args.p) c.loop-n.invariant.2)

pub overflow_cast-stops : goal.overflow_cast-stops
unfolding seen count_seen
overflow_cast-stops c = omega (arith, stops (seen c.args.p) c.loop-n.invariant.2 c.requires.payloads_value (omega arith) (omega arith) c.if-payloads-n-gt0.true c.from.ensures c.control_time.ensures.0 c.requires.p_bound_2)

pub offset_bounds-stops-count : goal.offset_bounds-stops-count
offset_bounds-stops-count c = omega (arith, shown-few (seen c.args.p) c.loop-n.invariant.2)

pub bounds-stops-count : goal.bounds-stops-count
bounds-stops-count c = omega (arith, shown-few (seen c.args.p) c.loop-n.invariant.2)

pub overflow_add-count : goal.overflow_add-count
overflow_add-count c = omega (arith, shown-few (seen c.args.p) c.loop-n.invariant.2)

pub overflow_add-start : goal.overflow_add-start
unfolding seen count_seen
overflow_add-start c = omega (arith, stops (seen c.args.p) c.loop-n.invariant.2 c.requires.payloads_value (omega arith) (omega arith) c.if-payloads-n-gt0.true c.from.ensures c.control_time.ensures.0 c.requires.p_bound_2)

pub loop-n-preserved : goal.loop-n-preserved
unfolding seen
loop-n-preserved c =
    let c1 = c.before in
    let s = c1.before in
    let q = seen s.args.p in
    let l = c.loop-n in
    let t = s.requires.payloads_value in
    elim c.if-payloads-n-gt0.branch [
      | then-payloads-n-gt0 w ↦
          let y = sends_yes q l.n t (omega arith) w.if-payloads-n-gt0.true in
          let time = time-is q l.n t (omega arith) w.from.ensures w.control_time.ensures.0 in (
            omega arith,
            l.invariant.1,
            rw (w.nodes-is, w.starts-is, w.stops-is, w.count-is, w.start-is)
                (shown_more q l.invariant.2 y (rw time) (rw c1.gap_time-gap.ensures.0)),
          )
      | else-payloads-n-gt0 w ↦
          let y = sends_no q l.n t (omega arith) w.if-payloads-n-gt0.false in
          (omega arith, l.invariant.1, rw (w.nodes-is, w.starts-is, w.stops-is, w.count-is, w.start-is) (shown-kept q l.invariant.2 y))
    ]

pub returns : goal.returns
unfolding seen count_seen control_laid control_rows sending_nodes rows_to nodes_to
returns c =
    let q = seen c.args.p in
    let e : c.loop-n.n ≡ q.nodes = omega arith in
    let h = c.loop-n.invariant.2 in
    rw (h.counted, h.noded, h.started, h.stopped, e)

pub bounds-payloads-n : goal.bounds-payloads-n
bounds-payloads-n c = omega arith

pub bounds-payloads-n-then-payloads-n-gt0 : goal.bounds-payloads-n-then-payloads-n-gt0
bounds-payloads-n-then-payloads-n-gt0 c = omega arith

pub overflow_cast-nodes : goal.overflow_cast-nodes
overflow_cast-nodes c = omega arith
