-- What `mark` promises, of connections as they are seen (`marked_seen`); what one marks is `leaving-marks`.
use mathlib.Core.Path.{◌≡◌, refl, ◌∙◌}
use mathlib.Core.Bool.{false, not, ◌&&◌}
use Rattle.std.proofs.Common.{rules}
use Rattle.std.specs.Bool.{then_some}
use Prim.Native.Nat.{◌<◌}
use lib.Dec.{eqb}
use lib.ListN.{get_or}
use Rattle.plan.specs.Memory.{seen, connection_seen}
use Rattle.laws.proofs.Laid.{tab-same}
use Rattle.rules.specs.Traffic.{leaves, is_bus_task}
use Rattle.bus.specs.Senders.{by_number, invoked_by}
use Rattle.bus.proofs.Tables.{no_mark, all_alike}
use Rattle.bus.proofs.Marking.{marked_seen, any_and}
use Rattle.bus.proofs.Given.{leaving-marks}
use Rattle.bus.proofs.senders.bus_tasks.Goals as goal

pub returns : goal.returns
unfolding is_bus_task invoked_by connection_seen by_number
returns c =
    let q = seen c.args.p in
    let things = c.connections.result.now in
    marked_seen connection_seen (λ k x. invoked_by q.invocations k && leaves q k x) no_mark c.connections.ensures.things (all_alike no_mark false (λ k. refl))
    (c.mark.ensures _ (record {
      told = λ i d r w said k.
          let from : (get_or things i d).producer.0 < 256 = search rules in
          let to : (get_or things i d).consumer.0 < 256 = search rules in
          let here : r ≡ then_some (get_or c.args.invoked.now (get_or things i d).producer.0 false && not (eqb (get_or c.args.nodes.now (get_or things i d).consumer.0 0) (get_or c.args.nodes.now (get_or things i d).producer.0 0))) (get_or things i d).producer.0 = search rules in
          leaving-marks q (connection_seen (get_or things i d)) k c.requires.nodes_value c.requires.invoked_value from to here;
    }))
    ∙ tab-same _ (is_bus_task q) 0 256 (λ k a b. any_and (invoked_by q.invocations k) (leaves q k) q.connections)
