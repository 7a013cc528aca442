use mathlib.Core.Path.{◌≡◌, refl}
use native.Mathlib.Omega.{arith}
use lib.ListN.{length}
use Rattle.plan.specs.Memory.{seen}
use Rattle.rules.specs.Traffic.{bus_tasks, is_sending}
use Rattle.bus.specs.Senders.{sending_by}
use Rattle.bus.proofs.Turns.{sending-none, sending_turn}
use Rattle.bus.proofs.senders.sending_modules.Goals as goal

pub loop-t-init : goal.loop-t-init
loop-t-init c = λ q e f. sending-none q

pub loop-t-preserved : goal.loop-t-preserved
loop-t-preserved c = λ q e f. sending_turn q c.loop-t.t (c.loop-t.invariant q e f) e f (omega arith) (omega arith) c.from-m.ensures refl

pub returns : goal.returns
unfolding is_sending sending_by bus_tasks
returns c =
    let start = c.before in
    let q = seen start.args.p in
    let e : c.loop-t.t ≡ length q.tasks = omega arith in
    rw e at (c.loop-t.invariant q start.requires.tasks_value start.requires.homes_value)
