use mathlib.Core.Path.{refl}
use native.Mathlib.Omega.{arith}
use Prim.Native.Nat.{◌≤◌, ◌<◌}
use lib.ListN.{length, get_or}
use Rattle.plan.specs.Memory.{seen}
use Rattle.bus.specs.Runs.{runs_marked}
use lib.Seq.{take_all}
use Rattle.plan.specs.Memory.{invocation_seen, invocation_laid}
use Rattle.bus.proofs.Marking.{seen_at}
use Rattle.rules.specs.Plan.{no_invocation}
use Rattle.bus.proofs.Columns.{among-few, mark_is, period-is, worst-is}
use Rattle.bus.proofs.Columns.{Laid, laid_none, laid-few, laid_more, laid_kept, laid-is}
use Rattle.bus.proofs.runs.Runs.of.Goals as goal
use Rattle.bus.proofs.runs.Runs.of.Goals.{then-marks-t, else-marks-t}

pub loop-invocation-init : goal.loop-invocation-init
loop-invocation-init c = laid_none (seen c.args.p) c.args.marks

pub bounds-modes-count : goal.bounds-modes-count
bounds-modes-count c = omega (arith, laid-few (seen c.args.p) c.args.marks (seen c.args.p).invocations c.loop-invocation.invocation-index c.loop-invocation.count c.loop-invocation.modes c.loop-invocation.tasks c.loop-invocation.periods c.loop-invocation.worsts (omega (arith, c.invocations-invocation-items.ensures.count.0)) c.loop-invocation.invariant)

pub bounds-tasks-count : goal.bounds-tasks-count
bounds-tasks-count c = omega (arith, laid-few (seen c.args.p) c.args.marks (seen c.args.p).invocations c.loop-invocation.invocation-index c.loop-invocation.count c.loop-invocation.modes c.loop-invocation.tasks c.loop-invocation.periods c.loop-invocation.worsts (omega (arith, c.invocations-invocation-items.ensures.count.0)) c.loop-invocation.invariant)

pub offset_bounds-periods-count : goal.offset_bounds-periods-count
offset_bounds-periods-count c = omega (arith, laid-few (seen c.args.p) c.args.marks (seen c.args.p).invocations c.loop-invocation.invocation-index c.loop-invocation.count c.loop-invocation.modes c.loop-invocation.tasks c.loop-invocation.periods c.loop-invocation.worsts (omega (arith, c.invocations-invocation-items.ensures.count.0)) c.loop-invocation.invariant)

pub bounds-periods-count : goal.bounds-periods-count
bounds-periods-count c = omega (arith, laid-few (seen c.args.p) c.args.marks (seen c.args.p).invocations c.loop-invocation.invocation-index c.loop-invocation.count c.loop-invocation.modes c.loop-invocation.tasks c.loop-invocation.periods c.loop-invocation.worsts (omega (arith, c.invocations-invocation-items.ensures.count.0)) c.loop-invocation.invariant)

pub offset_bounds-worsts-count : goal.offset_bounds-worsts-count
offset_bounds-worsts-count c = omega (arith, laid-few (seen c.args.p) c.args.marks (seen c.args.p).invocations c.loop-invocation.invocation-index c.loop-invocation.count c.loop-invocation.modes c.loop-invocation.tasks c.loop-invocation.periods c.loop-invocation.worsts (omega (arith, c.invocations-invocation-items.ensures.count.0)) c.loop-invocation.invariant)

pub bounds-worsts-count : goal.bounds-worsts-count
bounds-worsts-count c = omega (arith, laid-few (seen c.args.p) c.args.marks (seen c.args.p).invocations c.loop-invocation.invocation-index c.loop-invocation.count c.loop-invocation.modes c.loop-invocation.tasks c.loop-invocation.periods c.loop-invocation.worsts (omega (arith, c.invocations-invocation-items.ensures.count.0)) c.loop-invocation.invariant)

pub overflow_add-count : goal.overflow_add-count
overflow_add-count c = omega (arith, laid-few (seen c.args.p) c.args.marks (seen c.args.p).invocations c.loop-invocation.invocation-index c.loop-invocation.count c.loop-invocation.modes c.loop-invocation.tasks c.loop-invocation.periods c.loop-invocation.worsts (omega (arith, c.invocations-invocation-items.ensures.count.0)) c.loop-invocation.invariant)

pub loop-invocation-preserved : goal.loop-invocation-preserved
unfolding invocation_seen invocation_laid
loop-invocation-preserved c =
    let q = seen c.args.p in
    let marks = c.args.marks in
    let l = c.loop-invocation in
    let is = q.invocations in
    let h : l.invocation-index < length is = omega (arith, c.invocations-invocation-items.ensures.count.0) in
    let x = invocation_seen (get_or c.invocations-invocation-items.result.now l.invocation-index (invocation_laid no_invocation)) in
    let e = seen_at invocation_seen c.invocations-invocation-items.result.now c.invocations-invocation-items.ensures.things l.invocation-index (invocation_laid no_invocation) no_invocation (omega arith) in
    let t = c.from-t.result in
    let u = c.from-t.ensures in
    elim c.if-marks-t.branch [
      | then-marks-t w ↦ rw (w.modes-is, w.tasks-is, w.periods-is, w.worsts-is, w.count-is)
          (laid_more q marks is l.invocation-index l.count l.modes l.tasks l.periods l.worsts h l.invariant e (mark_is x marks u w.if-marks-t.true) refl refl
          (period-is q x w.from-m.result c.mode_periods-lasting.ensures (omega arith) w.from-m.ensures w.quotient.ensures)
          (worst-is q x t c.task_worsts-times.ensures (omega arith) u))
      | else-marks-t w ↦ rw (w.modes-is, w.tasks-is, w.periods-is, w.worsts-is, w.count-is)
          (laid_kept q marks is l.invocation-index l.count l.modes l.tasks l.periods l.worsts h l.invariant e (mark_is x marks u w.if-marks-t.false))
    ]

pub returns : goal.returns
unfolding runs_marked
returns c =
    let q = seen c.args.p in
    let runs = runs_marked q c.args.marks in
    let l = c.loop-invocation in
    let w : length q.invocations ≤ l.invocation-index = omega (arith, c.invocations-invocation-items.ensures.count.0) in
    let h : Laid runs l.count l.modes l.tasks l.periods l.worsts = rw (take_all l.invocation-index q.invocations w) at l.invariant in
    let k : length runs ≤ length q.invocations = among-few q c.args.marks q.invocations in
    (laid-is runs _ h, omega (arith, h.counted, c.invocations-invocation-items.ensures.count))
