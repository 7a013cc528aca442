-- Doubtful: no connection that rules 6.5.8 and 6.5.9 refuse ever made a bus task or a consumer (docs/RULES.md, section 15). A repeat asks
-- what the earlier one asks, and a connection of a task with itself leaves no node; so a plan comes to the same without them.
use mathlib.Core.Path.{◌≡◌, refl, sym, ap, ◌∙◌, fun_ext}
use mathlib.Core.Bool.{Bool, true, false, not, ◌&&◌, and-false, cond}
use mathlib.Core.List.{List, [], ◌∷◌, map, foldr}
use native.Mathlib.Omega.{arith}
use borrow.Author.Tests.{eqb-true, eq-eqb}
use lib.Dec.{eqb, leb, ltb}
use lib.ListN.{length}
use Prim.Native.Nat.{ℕ, ◌+◌, ◌<◌}
use Rattle.laws.specs.Res.{ok}
use Rattle.laws.specs.Lists.{keep, any, is_fresh, up_to}
use Rattle.laws.proofs.Lists.{true-false, both_left, both_right}
use Rattle.laws.proofs.LeftOut.{not-fresh, place_of, keep_at-all, keep_at-from, place-within, place-passes, places_rise, any-keep_at}
use Rattle.rules.specs.Plan.{Connection, Plan, no_connection, the_mode, the_task, the_connection, period_of, is_own, same_ends, connection_keeps, read_plan}
use Rattle.rules.specs.Traffic.{module_node, task_node, invokes, leaves, is_bus_task, bus_tasks, lives_in, is_sending, stands_on, senders_on, control_payload, traffic, thinned}
use Rattle.rules.specs.Traffic.{is_sending_node, sending_nodes, of_bus_task, run_of, bus_runs, bus_period, with_mode, of_sender, switch_grid, basic}
use Rattle.rules.specs.Frames.{ControlRow, sending_time, gap_time, pairs, pair_size, bytes_in, is_mode_in, block, payload, row_time, control_from, control_rows, control_end, some_bus_task, message_fits, control_fits, payloads_fit, layout_of, layout}
use Rattle.rules.specs.History.{brings, consumes}
use Rattle.rules.specs.ObeysPlan.{ConnectionFits}
use Rattle.rules.specs.Doubtful.{undoubted, with_connections, without_doubtful}
use Rattle.rules.proofs.PlanExact.{connection_means}
use Rattle.rules.proofs.PlanKept.{readable_kept}

module _ (p : Plan) where
  abbrev keeps : ℕ → Bool
  keeps = connection_keeps p.connections

  -- ---- the connections that stay

  pub none_left : (k : ℕ) → k < length (without_doubtful p).connections → ConnectionFits (without_doubtful p) k
  unfolding without_doubtful with_connections undoubted the_connection
  none_left k w =
      let at = place_of keeps no_connection p.connections in
      let here = keep_at-from keeps no_connection p.connections k w in
      let within = place-within keeps no_connection p.connections k w in
      let fits = (connection_means p (at k) within).says (place-passes keeps no_connection p.connections k w) in
      record {
        apart = rw here fits.apart;
        once =
            λ j v a b.
            let there = keep_at-from keeps no_connection p.connections j (omega arith) in
            fits.once (at j) (places_rise keeps no_connection p.connections k w j v) (rw (there, here) at a) (rw (there, here) at b);
      }

  -- where none is doubtful all stay
  pub none-taken : ((k : ℕ) → k < length p.connections → ConnectionFits p k) → without_doubtful p ≡ p
  unfolding without_doubtful with_connections undoubted
  none-taken h =
      ap (with_connections p) (keep_at-all keeps no_connection p.connections (λ k w. (connection_means p k w).passes (h k w)))

  -- ---- a connection from task t to one that passes a test, where t itself does not

  module _ (t : ℕ) (r : ℕ → Bool) (not_itself : r t ≡ false) where
    abbrev joins : Connection → Bool
    joins c = eqb c.producer t && r c.consumer

    own-joins-not : (c : Connection) → is_own c ≡ true → joins c ≡ true → ⊥
    unfolding is_own
    own-joins-not c o j =
        let from : c.producer ≡ t = eqb-true c.producer t (both_left _ _ j) in
        let to : c.consumer ≡ t = sym (eqb-true c.producer c.consumer o) ∙ from in
        true-false (sym (both_right (eqb c.producer t) _ j) ∙ ap r to ∙ not_itself)

    repeat_joins : (c d : Connection) → same_ends c d ≡ true → joins c ≡ true → joins d ≡ true
    unfolding same_ends
    repeat_joins c d s j =
        let from = eqb-true c.producer d.producer (both_left _ _ s) in
        let to = eqb-true c.consumer d.consumer (both_right (eqb c.producer d.producer) _ s) in
        rw (← from, ← to) j

    earlier_joins : (k : ℕ) → k < length p.connections → keeps k ≡ false → joins (the_connection p k) ≡ true
        → (j : ℕ) × (j < k) × (joins (the_connection p j) ≡ true)
    unfolding connection_keeps the_connection
    earlier_joins k w e f = look (is_own (the_connection p k)) refl
      where
        look : (b : Bool) → is_own (the_connection p k) ≡ b → (j : ℕ) × (j < k) × (joins (the_connection p j) ≡ true)
        look true o = absurd (own-joins-not (the_connection p k) o f)
        look false o =
            let stale = sym (ap (λ (b : Bool). not b && is_fresh same_ends no_connection p.connections k) o) ∙ e in
            let g = not-fresh same_ends no_connection p.connections k (omega arith) stale in
            (g.0, g.1, repeat_joins (the_connection p k) (the_connection p g.0) g.2 f)

    any-joins : any joins (undoubted p) ≡ any joins p.connections
    unfolding undoubted the_connection
    any-joins = any-keep_at keeps no_connection p.connections joins earlier_joins

  -- ---- bus tasks and consumers

  pub same-bus-task : (t : ℕ) → is_bus_task (without_doubtful p) t ≡ is_bus_task p t
  unfolding is_bus_task leaves task_node module_node the_task without_doubtful with_connections
  same-bus-task t =
      let here = ap not (eq-eqb (task_node p t) (task_node p t) refl) in
      ap (λ (b : Bool). any (invokes t) p.invocations && b)
      (any-joins t (λ u. not (eqb (task_node p u) (task_node p t))) here)

  pub same-consumers : (n t : ℕ) → consumes (without_doubtful p) n t ≡ consumes p n t
  unfolding consumes brings task_node module_node the_task without_doubtful with_connections
  same-consumers n t = look (eqb (task_node p t) n) refl
    where
      look : (b : Bool) → eqb (task_node p t) n ≡ b
          → (any (brings p n t) (undoubted p) && not (eqb (task_node p t) n)) ≡ (any (brings p n t) p.connections && not (eqb (task_node p t) n))
      look true e = rw e (and-false (any (brings p n t) (undoubted p)) ∙ sym (and-false (any (brings p n t) p.connections)))
      look false e = ap (λ (b : Bool). b && not (eqb (task_node p t) n)) (any-joins t (λ u. eqb (task_node p u) n) e)

  -- ---- what the plan comes to

  same-bus-tasks : is_bus_task (without_doubtful p) ≡ is_bus_task p
  same-bus-tasks = fun_ext same-bus-task

  same-tasks : bus_tasks (without_doubtful p) ≡ bus_tasks p
  unfolding bus_tasks without_doubtful with_connections
  same-tasks = ap (λ (b : ℕ → Bool). keep b (up_to (length p.tasks))) same-bus-tasks

  same_runs : bus_runs (without_doubtful p) ≡ bus_runs p
  unfolding bus_runs of_bus_task run_of period_of the_mode the_task without_doubtful with_connections
  same_runs = ap (λ (b : ℕ → Bool). map (run_of p) (keep (λ i. b i.task) p.invocations)) same-bus-tasks

  same-sending : is_sending (without_doubtful p) ≡ is_sending p
  unfolding is_sending lives_in the_task without_doubtful with_connections
  same-sending = fun_ext (λ m. ap (any (lives_in p m)) same-tasks)

  same-grid : switch_grid (without_doubtful p) ≡ switch_grid p
  unfolding switch_grid of_sender without_doubtful with_connections
  same-grid = ap (λ (b : ℕ → Bool). foldr with_mode 0 (keep (λ μ. b μ.home) p.modes)) same-sending

  same-control : control_payload (without_doubtful p) ≡ control_payload p
  unfolding control_payload senders_on stands_on module_node without_doubtful with_connections
  same-control =
      fun_ext
      (λ n. ap (λ (b : ℕ → Bool). length (keep (λ m. eqb (module_node p m) n && b m) (up_to (length p.modules)))) same-sending)

  same_senders : sending_nodes (without_doubtful p) ≡ sending_nodes p
  unfolding sending_nodes is_sending_node without_doubtful with_connections
  same_senders = ap (λ (payload : ℕ → ℕ). keep (λ n. ltb 0 (payload n)) (up_to p.nodes)) same-control

  same-rows-from : (start : ℕ) (ns : List ℕ) → control_from (without_doubtful p) start ns ≡ control_from p start ns
  unfolding control_from without_doubtful with_connections
  same-rows-from start [] = refl
  same-rows-from start (n ∷ ns) =
      rw same-control
      (ap (λ (rows : List ControlRow). record { node = n; start = start; stop = start + sending_time p.bus (control_payload p n) } ∷ rows)
      (same-rows-from (start + sending_time p.bus (control_payload p n) + gap_time p.bus) ns))

  same_rows : control_rows (without_doubtful p) ≡ control_rows p
  unfolding control_rows
  same_rows = same-rows-from 0 (sending_nodes (without_doubtful p)) ∙ ap (control_from p 0) same_senders

  same-edition : (without_doubtful p).consumers ≡ p.consumers
  unfolding without_doubtful with_connections
  same-edition = refl

  same-basic : basic (without_doubtful p) ≡ basic p
  unfolding basic bus_period
  same-basic = rw (same_runs, same-grid)

  same-traffic : p.consumers ≡ false → traffic (without_doubtful p) ≡ traffic p
  unfolding traffic
  same-traffic e =
      ap (λ (b : Bool). cond b (thinned (without_doubtful p)) (basic (without_doubtful p))) (same-edition ∙ e)
      ∙ same-basic ∙ sym (ap (λ (b : Bool). cond b (thinned p) (basic p)) e)

  same-control-fit : control_fits (without_doubtful p) ≡ control_fits p
  unfolding control_fits without_doubtful with_connections
  same-control-fit = fun_ext (λ n. ap (λ (payload : ℕ → ℕ). leb (payload n) p.bus.most) same-control)

  same-fit : payloads_fit (without_doubtful p) ≡ payloads_fit p
  unfolding payloads_fit message_fits the_task without_doubtful with_connections
  same-fit = rw (same-tasks, same_senders, same-control-fit)

  same_end : control_end (without_doubtful p) ≡ control_end p
  unfolding control_end without_doubtful with_connections
  same_end = rw same_rows

  -- without its doubtful connections a plan gives the same refusal, or period, control rows, frames, windows and times, in the basic edition
  pub same_layout : p.consumers ≡ false → layout (without_doubtful p) ≡ layout p
  unfolding layout layout_of pairs some_bus_task row_time payload block bytes_in is_mode_in the_mode pair_size the_task without_doubtful with_connections
  same_layout e = rw (same-bus-tasks, same-traffic e, same-fit, same_end, same_rows)

-- a plan that is read has no doubtful connection
pub none_in_read : (file : List ℕ) (p : Plan) → read_plan file ≡ ok p → without_doubtful p ≡ p
none_in_read file p e = none-taken p (readable_kept file p e).doubtless
