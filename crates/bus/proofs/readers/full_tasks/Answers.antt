-- What `mark` promises, of connections as they are seen (`marked_seen`); what one marks is `full-marks`.
use mathlib.Core.Path.{◌≡◌, refl}
use mathlib.Core.Bool.{false, not}
use Rattle.std.proofs.Common.{rules}
use Rattle.std.specs.Bool.{then_some}
use Prim.Native.Nat.{◌<◌}
use lib.Dec.{ltb}
use lib.ListN.{get_or}
use Rattle.plan.specs.Memory.{seen, connection_seen}
use Rattle.rules.specs.Readers.{needs_all}
use Rattle.bus.specs.Readers.{is_full}
use Rattle.bus.proofs.Tables.{no_mark, all_alike}
use Rattle.bus.proofs.Marking.{marked_seen}
use Rattle.bus.proofs.Given.{full-marks}
use Rattle.bus.proofs.readers.full_tasks.Goals as goal

pub returns : goal.returns
unfolding is_full connection_seen
returns c =
    let q = seen c.args.p in
    let things = c.connections.result.now in
    let leasts = c.least_periods-leasts.result in
    marked_seen connection_seen (needs_all q) no_mark c.connections.ensures.things (all_alike no_mark false (λ k. refl))
    (c.mark.ensures _ (record {
      told = λ i d r w said k.
          let from : (get_or things i d).producer.0 < 256 = search rules in
          let to : (get_or things i d).consumer.0 < 256 = search rules in
          let here : r ≡ then_some (not (ltb (get_or leasts (get_or things i d).producer.0 0) (get_or leasts (get_or things i d).consumer.0 0))) (get_or things i d).producer.0 = search rules in
          full-marks q (connection_seen (get_or things i d)) k c.least_periods-leasts.ensures from to here;
    }))
