-- What `mark` promises twice, of connections as they are seen (`marked_seen`): a module at either end is marked (`any_or`).
use mathlib.Core.Path.{◌≡◌, refl, sym, ◌∙◌}
use mathlib.Core.Bool.{false, ◌||◌}
use Rattle.std.proofs.Common.{rules}
use Rattle.std.specs.Prelude.{Some}
use Prim.Native.Nat.{ℕ, ◌<◌}
use lib.ListN.{get_or}
use Rattle.plan.specs.Memory.{seen, connection_seen}
use Rattle.laws.specs.Lists.{any}
use Rattle.laws.proofs.Laid.{tab-same}
use Rattle.rules.specs.Plan.{Connection}
use Rattle.rules.specs.Traffic.{lives_in, ends_in}
use Rattle.bus.specs.Senders.{by_number}
use Rattle.bus.specs.Marks.{holds_end}
use Rattle.bus.proofs.Tables.{no_mark, all_alike}
use Rattle.bus.proofs.Marking.{marked_seen, any_or}
use Rattle.bus.proofs.Given.{home-marks}
use Rattle.bus.proofs.marks.end_modules.Goals as goal

pub returns : goal.returns
unfolding holds_end ends_in connection_seen by_number
returns c =
    let q = seen c.args.p in
    let homes = c.task_homes-homes in
    let from = c.connections.result.now in
    let to = c.connections-2.result.now in
    let here = λ (k : ℕ) (x : Connection). lives_in q k x.producer in
    let there = λ (k : ℕ) (x : Connection). lives_in q k x.consumer in
    let first =
    marked_seen connection_seen here no_mark c.connections.ensures.things (all_alike no_mark false (λ k. refl))
    (c.mark.ensures _ (record {
      told = λ i d r w said k.
          let within : (get_or from i d).producer.0 < 256 = search rules in
          let is : r ≡ Some (get_or homes.result (get_or from i d).producer.0 0) = search rules in
          home-marks q k homes.ensures within is;
    })) in
    let second =
    marked_seen connection_seen there (λ k. no_mark k || any (here k) q.connections) c.connections-2.ensures.things first
    (c.mark-2.ensures _ (record {
      told = λ i d r w said k.
          let within : (get_or to i d).consumer.0 < 256 = search rules in
          let is : r ≡ Some (get_or homes.result (get_or to i d).consumer.0 0) = search rules in
          home-marks q k homes.ensures within is;
    })) in
    second ∙ tab-same _ (holds_end q) 0 256 (λ k a b. sym (any_or (here k) (there k) q.connections))
