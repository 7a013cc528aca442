use mathlib.Core.Path.{◌≡◌, ap, ◌∙◌}
use mathlib.Core.Bool.{false}
use native.Mathlib.Omega.{arith}
use Prim.Native.Nat.{ℕ, ◌+◌, ◌≤◌}
use lib.ListN.{length, get_or}
use Rattle.plan.specs.Memory.{seen}
use Rattle.rules.specs.Traffic.{senders_on, control_payload}
use Rattle.bus.specs.Senders.{payload_by}
use Rattle.bus.proofs.Turns.{payloads-none, payloads_turn, payload-fits, byte-is, byte-small}
use Rattle.bus.proofs.senders.control_payloads.Goals as goal

pub loop-m-init : goal.loop-m-init
loop-m-init c = λ q e f. payloads-none q

pub overflow_add-payloads : goal.overflow_add-payloads
overflow_add-payloads c =
    let q = seen c.args.p in
    let l = c.loop-m in
    let w : get_or l.payloads c.from-k.result 0 ≤ l.m = payload-fits q l.m c.from-k.result (l.invariant q c.requires.modules_value c.requires.nodes_value) (omega arith) in
    omega (arith, byte-small (get_or c.args.modules.now l.m false))

pub loop-m-preserved : goal.loop-m-preserved
loop-m-preserved c = λ q e f.
    payloads_turn q c.loop-m.m (c.loop-m.invariant q e f) e f (omega arith) (omega arith) c.from-k.ensures
    (ap (λ (n : ℕ). get_or c.loop-m.payloads c.from-k.result 0 + n) (c.from.ensures ∙ byte-is (get_or c.args.modules.now c.loop-m.m false)))

pub returns : goal.returns
unfolding control_payload senders_on payload_by
returns c =
    let start = c.before in
    let q = seen start.args.p in
    let e : c.loop-m.m ≡ length q.modules = omega arith in
    rw e at (c.loop-m.invariant q start.requires.modules_value start.requires.nodes_value)
