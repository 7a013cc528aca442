-- What `mark` promises, of connections as they are seen (`marked_seen`); what one marks is `counted-marks`.
use mathlib.Core.Path.{◌≡◌}
use Rattle.std.proofs.Common.{rules}
use Rattle.std.specs.Bool.{then_some}
use Prim.Native.Nat.{◌<◌}
use lib.Dec.{ltb}
use lib.ListN.{get_or}
use Rattle.plan.specs.Memory.{seen, connection_seen}
use Rattle.rules.specs.Traffic.{is_bus_task, thins_for}
use Rattle.bus.specs.Marks.{is_counted_task}
use Rattle.bus.proofs.Marking.{marked_seen}
use Rattle.bus.proofs.Given.{counted-marks}
use Rattle.bus.proofs.marks.with_consumers.Goals as goal

pub returns : goal.returns
unfolding is_counted_task connection_seen
returns c =
    let q = seen c.args.p in
    let things = c.connections.result.now in
    let leasts = c.least_periods-leasts.result in
    marked_seen connection_seen (thins_for q) (is_bus_task q) c.connections.ensures.things c.requires.bus_value
    (c.mark.ensures _ (record {
      told = λ i d r w said k.
          let from : (get_or things i d).producer.0 < 256 = search rules in
          let to : (get_or things i d).consumer.0 < 256 = search rules in
          let here : r ≡ then_some ((ltb (get_or leasts (get_or things i d).producer.0 0) (get_or leasts (get_or things i d).consumer.0 0))) (get_or things i d).consumer.0 = search rules in
          counted-marks q (connection_seen (get_or things i d)) k c.least_periods-leasts.ensures from to here;
    }))
