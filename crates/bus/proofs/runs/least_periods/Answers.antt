use mathlib.Core.Path.{◌∙◌}
use native.Mathlib.Omega.{arith}
use Prim.Native.Nat.{◌≤◌, ◌<◌}
use lib.ListN.{length, get_or}
use lib.Seq.{take_all}
use Rattle.plan.specs.Memory.{seen, invocation_seen, invocation_laid}
use Rattle.rules.specs.Plan.{no_invocation}
use Rattle.bus.proofs.Columns.{period-is}
use Rattle.bus.proofs.Marking.{seen_at}
use Rattle.bus.proofs.Thinning.{leasts_none, leasts_all, leasts_turn}
use Rattle.bus.proofs.runs.least_periods.Goals as goal

pub loop-invocation-init : goal.loop-invocation-init
loop-invocation-init c = leasts_none (seen c.args.p)

pub loop-invocation-preserved : goal.loop-invocation-preserved
unfolding invocation_seen invocation_laid
loop-invocation-preserved c =
    let q = seen c.args.p in
    let l = c.loop-invocation in
    let items = c.invocations-invocation-items in
    let i = l.invocation-index in
    let h : i < length q.invocations = omega (arith, items.ensures.count.0) in
    let x = invocation_seen (get_or items.result.now i (invocation_laid no_invocation)) in
    leasts_turn q i h (seen_at invocation_seen items.result.now items.ensures.things i (invocation_laid no_invocation) no_invocation (omega arith)) c.requires l.invariant (omega arith) c.from-t.ensures
    (period-is q x c.from-m.result c.mode_periods-lasting.ensures (omega arith) c.from-m.ensures c.quotient-period.ensures) c.lesser.ensures

pub returns : goal.returns
returns c =
    let q = seen c.args.p in
    let w : length q.invocations ≤ c.loop-invocation.invocation-index = omega (arith, c.invocations-invocation-items.ensures.count.0) in
    rw (take_all c.loop-invocation.invocation-index q.invocations w) at c.loop-invocation.invariant ∙ leasts_all q
