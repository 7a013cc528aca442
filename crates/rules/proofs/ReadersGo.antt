-- What the walk of rule 13.4 asks of the periods with which a task's results are read; and what a plan in an edition keeps of its
-- connections, so that each bus task has readers.
use mathlib.Core.Path.{◌≡◌, sym, subst, ◌∙◌}
use mathlib.Core.Bool.{Bool, true, false}
use mathlib.Core.List.{List}
use lib.ListN.{length}
use Prim.Native.Nat.{ℕ, ◌≤◌, ◌<◌, ◌∣◌}
use Rattle.laws.specs.Res.{ok}
use Rattle.laws.proofs.Lists.{true-false}
use Rattle.laws.proofs.Members.{All, all_weaker, keep-passes}
use Rattle.rules.specs.Limits.{most_invocations}
use Rattle.rules.specs.Plan.{Plan, the_task, read_plan}
use Rattle.rules.specs.Traffic.{module_node, task_node, is_invoked, is_left, plan_in, read_in}
use Rattle.rules.proofs.Editions.{read-in, read_plain}

-- a task has readers, no more than there may be invocations, and each comes again in the cycle
pub record ReadersGo (cycle : ℕ) (us : List ℕ) : Type 0 where
  pub some : 0 < length us
  pub few : length us ≤ most_invocations
  pub each : All (λ u. (0 < u) × (u ∣ cycle)) us

-- in the consumer edition every connection of the plan is one that is left (rule 21.2)
pub record InEdition (p : Plan) : Type 0 where
  pub left : p.consumers ≡ true → All (λ c. is_left p c ≡ true) p.connections

left_in : (consumers : Bool) (file : List ℕ) (q : Plan) → read_plan file ≡ ok q → InEdition (plan_in consumers q)
unfolding is_left task_node module_node the_task is_invoked
left_in true file q e = record { left = λ t. all_weaker (λ c h. h) (keep-passes (is_left q) q.connections) }
left_in false file q e = record { left = λ t. true-false (sym t ∙ read_plain file q e) }

pub edition-kept : (consumers : Bool) (file : List ℕ) (p : Plan) → read_in consumers file ≡ ok p → InEdition p
edition-kept consumers file p e =
    let r = read-in consumers file p e in
    subst InEdition r.2 (left_in consumers file r.0 r.1)
