use native.Mathlib.Omega.{arith}
use Rattle.std.proofs.Common.{◌≡◌, rules as needs}
use Prim.Native.Nat.{◌≤◌, ◌<◌}
use lib.ListN.{length, get_or}
use lib.Seq.{take_all}
use Rattle.plan.specs.Memory.{seen, connection_seen, connection_laid}
use Rattle.rules.specs.Plan.{no_connection}
use Rattle.bus.proofs.Marking.{seen_at}
use Rattle.bus.proofs.Leaving.{left-none, left-few, left_more, left-kept, left_is}
use Rattle.bus.proofs.edition.connections_left.Goals as goal
use Rattle.bus.proofs.edition.connections_left.Goals.{then-is_left, else-is_left}

pub loop-connection-init : goal.loop-connection-init
unfolding connection_laid
loop-connection-init c =
    let zero : c.default-left.result ≡ connection_laid no_connection = search needs in
    rw zero (left-none (seen c.args.p))

pub bounds-left-count : goal.bounds-left-count
bounds-left-count c = omega (arith, left-few (seen c.args.p) c.loop-connection.connection-index c.loop-connection.count c.loop-connection.left c.loop-connection.invariant (omega (arith, c.connections-connection-items.ensures.count.0)))

pub offset_bounds-left-count : goal.offset_bounds-left-count
offset_bounds-left-count c = omega (arith, left-few (seen c.args.p) c.loop-connection.connection-index c.loop-connection.count c.loop-connection.left c.loop-connection.invariant (omega (arith, c.connections-connection-items.ensures.count.0)))

pub overflow_add-count : goal.overflow_add-count
overflow_add-count c = omega (arith, left-few (seen c.args.p) c.loop-connection.connection-index c.loop-connection.count c.loop-connection.left c.loop-connection.invariant (omega (arith, c.connections-connection-items.ensures.count.0)))

pub loop-connection-preserved : goal.loop-connection-preserved
unfolding connection_seen connection_laid
loop-connection-preserved c =
    let q = seen c.args.p in
    let l = c.loop-connection in
    let h : l.connection-index < length q.connections = omega (arith, c.connections-connection-items.ensures.count.0) in
    let x = connection_seen (get_or c.connections-connection-items.result.now l.connection-index (connection_laid no_connection)) in
    let e = seen_at connection_seen c.connections-connection-items.result.now c.connections-connection-items.ensures.things l.connection-index (connection_laid no_connection) no_connection (omega arith) in
    let y = left_is q x c.requires.nodes_value c.requires.invoked_value (omega arith) (omega arith) c.from-t.ensures c.from-u.ensures c.is_left.ensures in
    elim c.if-is_left.branch [
      | then-is_left w ↦
          (rw (w.left-is, w.count-is) (left_more q l.connection-index l.count l.left l.invariant h e (rw w.if-is_left.true at y)))
      | else-is_left w ↦
          (rw (w.left-is, w.count-is) (left-kept q l.connection-index l.count l.left l.invariant h e (rw w.if-is_left.false at y)))
    ]

pub returns : goal.returns
returns c =
    let q = seen c.args.p in
    let w : length q.connections ≤ c.loop-connection.connection-index = omega (arith, c.connections-connection-items.ensures.count.0) in
    rw (take_all c.loop-connection.connection-index q.connections w) at c.loop-connection.invariant
