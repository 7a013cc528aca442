-- What `fill` promises, of the nodes that stand in the table of modules (`node-there`); behind the tasks stands the node of module 0.
use mathlib.Core.Path.{◌≡◌, refl, sym, ap, ◌∙◌}
use native.Mathlib.Omega.{arith}
use Rattle.std.proofs.Common.{rules}
use Prim.Native.Nat.{◌<◌}
use lib.ListN.{length, get_or}
use Rattle.plan.specs.Memory.{seen, task_seen}
use Rattle.rules.specs.Plan.{Task, no_task, the_task}
use Rattle.rules.specs.Traffic.{task_node}
use Rattle.bus.proofs.Tables.{filled}
use Rattle.bus.proofs.Marking.{seen_at}
use Rattle.bus.proofs.Given.{node-there, node-behind}
use Rattle.bus.proofs.senders.task_nodes.Goals as goal

pub returns : goal.returns
unfolding the_task task_seen
returns c =
    let q = seen c.args.p in
    let things = c.tasks.result.now in
    c.fill.ensures (task_node q) (record {
      told = λ i d v w said.
          let within : (get_or things i d).home.0 < 256 = search rules in
          let here : v ≡ get_or c.args.nodes.now (get_or things i d).home.0 0 = search rules in
          node-there q i c.requires within (sym (ap (λ (x : Task). x.home) (seen_at task_seen things c.tasks.ensures.things i d no_task w))) here;
    })
    ∙ rw c.tasks.ensures.count.0 (filled (task_node q) _ (length q.tasks) (omega (arith, c.tasks.ensures.count.1)) (λ k h v. node-behind q k c.requires refl h))
