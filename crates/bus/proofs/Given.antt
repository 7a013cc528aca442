-- What the things of a plan give to its tables by number, read off other tables.
use mathlib.Core.Path.{◌≡◌, refl, sym, ap, ◌∙◌}
use mathlib.Core.Bool.{Bool, false, not, ◌&&◌}
use mathlib.Core.List.{List}
use Rattle.std.specs.Prelude.{Option, Some}
use Rattle.std.specs.Bool.{then_some}
use native.Mathlib.Omega.{arith}
use borrow.Author.Tests.{eq-eqb}
use lib.Dec.{eqb, ltb}
use lib.ListN.{length, get_or, get_or-eq_default}
use Prim.Native.Nat.{ℕ, ◌≤◌, ◌<◌}
use Rattle.rules.specs.Plan.{Plan, Task, Connection, no_task, the_task}
use Rattle.rules.specs.Traffic.{module_node, task_node, leaves, lives_in, can_be_thinned, thins_for}
use Rattle.rules.specs.Readers.{needs_all}
use Rattle.bus.specs.Senders.{by_number, task_home, invoked_by}
use Rattle.bus.specs.Runs.{least_period}
use Rattle.bus.specs.Tables.{is_mark}
use Rattle.bus.proofs.Tables.{at-number}
use Rattle.bus.proofs.Marking.{mark_if, mark_where, and-false}

module _ (q : Plan) where
  pub node-there : {nodes : List ℕ} {m v : ℕ} (t : ℕ) → nodes ≡ by_number (module_node q) → m < 256 → m ≡ (the_task q t).home → v ≡ get_or nodes m 0 → v ≡ task_node q t
  unfolding task_node
  node-there {m = m} t e w h s = s ∙ rw e (at-number (module_node q) m 0 w) ∙ ap (module_node q) h

  -- a task that the plan does not have is of module 0
  pub node-behind : {nodes : List ℕ} {v : ℕ} (t : ℕ) → nodes ≡ by_number (module_node q) → v ≡ get_or nodes 0 0 → length q.tasks ≤ t → task_node q t ≡ v
  unfolding task_node the_task
  node-behind t e s h =
      ap (λ (x : Task). module_node q x.home) (get_or-eq_default q.tasks no_task h) ∙ sym (s ∙ rw e (at-number (module_node q) 0 0 (omega arith)))

  pub home-marks : (k : ℕ) {r : Option ℕ} {homes : List ℕ} {n : ℕ} → homes ≡ by_number (task_home q) → n < 256 → r ≡ Some (get_or homes n 0) → lives_in q k n ≡ is_mark r k
  unfolding lives_in task_home
  home-marks k {n = n} e w h = rw (h, e, at-number (task_home q) n 0 w)

  thins-is : (x : Connection) {leasts : List ℕ} → leasts ≡ by_number (least_period q) → x.producer < 256 → x.consumer < 256 → ltb (get_or leasts x.producer 0) (get_or leasts x.consumer 0) ≡ can_be_thinned q x
  unfolding can_be_thinned least_period
  thins-is x e w v = rw (e, at-number (least_period q) x.producer 0 w, at-number (least_period q) x.consumer 0 v)

  module _ (x : Connection) (k : ℕ) {r : Option ℕ} where
    pub leaving-marks : {nodes : List ℕ} {invoked : List Bool} → nodes ≡ by_number (task_node q) → invoked ≡ by_number (invoked_by q.invocations) → x.producer < 256 → x.consumer < 256
        → r ≡ then_some (get_or invoked x.producer false && not (eqb (get_or nodes x.consumer 0) (get_or nodes x.producer 0))) x.producer → (invoked_by q.invocations k && leaves q k x) ≡ is_mark r k
    unfolding leaves
    leaving-marks e f w v h =
        rw (h, e, f, at-number (invoked_by q.invocations) x.producer false w, at-number (task_node q) x.consumer 0 v, at-number (task_node q) x.producer 0 w)
        (mark_where _ _ x.producer k (λ s. rw (s, eq-eqb x.producer x.producer refl)) (λ n. rw n (and-false (invoked_by q.invocations k))))

    module _ {leasts : List ℕ} (e : leasts ≡ by_number (least_period q)) (w : x.producer < 256) (v : x.consumer < 256) where
      pub counted-marks : r ≡ then_some (ltb (get_or leasts x.producer 0) (get_or leasts x.consumer 0)) x.consumer → thins_for q k x ≡ is_mark r k
      unfolding thins_for
      counted-marks h = rw (h, thins-is x e w v) (mark_if (can_be_thinned q x) x.consumer k)

      pub full-marks : r ≡ then_some (not (ltb (get_or leasts x.producer 0) (get_or leasts x.consumer 0))) x.producer → needs_all q k x ≡ is_mark r k
      unfolding needs_all
      full-marks h = rw (h, thins-is x e w v) (mark_if (not (can_be_thinned q x)) x.producer k)
