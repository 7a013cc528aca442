use mathlib.Core.Path.{refl}
use mathlib.Core.List.{List}
use native.Mathlib.Omega.{arith}
use Prim.Native.Nat.{ℕ, ◌≤◌, ◌<◌}
use lib.ListN.{length, get_or}
use lib.Seq.{take_all}
use Rattle.plan.specs.Memory.{seen, invocation_seen, invocation_laid}
use Rattle.rules.specs.Traffic.{Run}
use Rattle.rules.specs.Plan.{no_invocation}
use Rattle.bus.specs.Runs.{runs_marked}
use Rattle.bus.proofs.Marking.{seen_at}
use Rattle.bus.proofs.Columns.{mark_is, period-is}
use Rattle.bus.proofs.Columns.{Laid, laid_none, laid-few, laid_more, laid_kept, laid-is}
use Rattle.bus.proofs.Rows.{row-marked}
use Rattle.bus.proofs.readers.consumers_row.Invariants.{Periods}
use Rattle.bus.proofs.readers.consumers_row.Goals as goal
use Rattle.bus.proofs.readers.consumers_row.Goals.{then-marks-u, else-marks-u}

only-periods : {rs : List Run} {count : ℕ} {modes tasks periods worsts : List ℕ} → Laid rs count modes tasks periods worsts → Periods rs count periods
only-periods h = record { counted = h.counted; mode = refl; task = refl; period = h.period; worst = refl }

pub loop-invocation-init : goal.loop-invocation-init
loop-invocation-init c = (only-periods (laid_none (seen c.args.p) c.consumers_of-marks.result))

pub offset_bounds-periods-count : goal.offset_bounds-periods-count
offset_bounds-periods-count c = omega (arith, laid-few (seen c.args.p) c.consumers_of-marks.result (seen c.args.p).invocations c.loop-invocation.invocation-index c.loop-invocation.count _ _ c.loop-invocation.periods _ (omega (arith, c.invocations-invocation-items.ensures.count.0)) c.loop-invocation.invariant)

pub bounds-periods-count : goal.bounds-periods-count
bounds-periods-count c = omega (arith, laid-few (seen c.args.p) c.consumers_of-marks.result (seen c.args.p).invocations c.loop-invocation.invocation-index c.loop-invocation.count _ _ c.loop-invocation.periods _ (omega (arith, c.invocations-invocation-items.ensures.count.0)) c.loop-invocation.invariant)

pub overflow_add-count : goal.overflow_add-count
overflow_add-count c = omega (arith, laid-few (seen c.args.p) c.consumers_of-marks.result (seen c.args.p).invocations c.loop-invocation.invocation-index c.loop-invocation.count _ _ c.loop-invocation.periods _ (omega (arith, c.invocations-invocation-items.ensures.count.0)) c.loop-invocation.invariant)

pub loop-invocation-preserved : goal.loop-invocation-preserved
unfolding invocation_seen invocation_laid
loop-invocation-preserved c =
    let q = seen c.args.p in
    let marks = c.consumers_of-marks.result in
    let l = c.loop-invocation in
    let is = q.invocations in
    let h : l.invocation-index < length is = omega (arith, c.invocations-invocation-items.ensures.count.0) in
    let x = invocation_seen (get_or c.invocations-invocation-items.result.now l.invocation-index (invocation_laid no_invocation)) in
    let e = seen_at invocation_seen c.invocations-invocation-items.result.now c.invocations-invocation-items.ensures.things l.invocation-index (invocation_laid no_invocation) no_invocation (omega arith) in
    let u = c.from-u.ensures in
    elim c.if-marks-u.branch [
      | then-marks-u w ↦ rw (w.periods-is, w.count-is)
          (only-periods (laid_more q marks is l.invocation-index l.count _ _ l.periods _ h l.invariant e (mark_is x marks u w.if-marks-u.true) refl refl
          (period-is q x w.from-m.result c.requires.lasting_value (omega arith) w.from-m.ensures w.quotient.ensures) refl))
      | else-marks-u w ↦ rw (w.periods-is, w.count-is)
          (only-periods (laid_kept q marks is l.invocation-index l.count _ _ l.periods _ h l.invariant e (mark_is x marks u w.if-marks-u.false)))
    ]

pub returns : goal.returns
unfolding runs_marked
returns c =
    let q = seen c.args.p in
    let marks = c.consumers_of-marks.result in
    let l = c.loop-invocation in
    let w : length q.invocations ≤ l.invocation-index = omega (arith, c.invocations-invocation-items.ensures.count.0) in
    let h : Periods (runs_marked q marks) l.count l.periods = rw (take_all l.invocation-index q.invocations w) at l.invariant in
    row-marked q c.args.t c.requires.plan_kept marks (laid-is (runs_marked q marks) (record { count = l.count; modes = _; tasks = _; periods = l.periods; worsts = _ }) h) c.consumers_of-marks.ensures
