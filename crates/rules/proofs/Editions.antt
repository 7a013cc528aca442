-- Editions: what a plan keeps in either edition. The periods of its bus runs divide P, and G divides the mode and switch periods of sending
-- modules; the connections left keep what refusals 2 to 5 ask, since each of them is one of the plan's.
use mathlib.Core.Path.{◌≡◌, refl, sym, ap, ◌∙◌, subst}
use mathlib.Core.Bool.{Bool, true, false, cond}
use mathlib.Core.List.Memᴰ
use mathlib.Core.List.{List, foldr, Memᴰ}
use native.Mathlib.Nat.{dvd_refl}
use native.Mathlib.Omega.{arith}
use borrow.Author.Tests.{eqb-true}
use lib.ListN.{length}
use Prim.Native.Nat.{ℕ, ◌<◌, ◌∣◌, zero-le}
use Rattle.laws.specs.Res.{ok}
use Rattle.laws.specs.Lists.{keep, any, up_to}
use Rattle.laws.proofs.Res.{bind_case, ok_injective}
use Rattle.laws.proofs.Lists.{both_left, both_right, length-keep}
use Rattle.laws.proofs.Tests.{by_each, by_and, by_divides}
use Rattle.laws.proofs.Divisors.{divides-is}
use Rattle.laws.proofs.Members.{All, Pairs, all_weaker, all_keep, all_get_d, all_of_members, all_of_places, all_member, member_get_or, member_map, source, keep_member, keep-from, keep-passes, any_member, any-among, pairs-keep, pairs-get_or, pairs_of_places}
use Rattle.rules.specs.Plan.{Mode, Invocation, Connection, Plan, plan_of, no_mode, no_connection, the_mode, the_task, the_invocation, the_connection, period_of, read_plan}
use Rattle.rules.specs.Traffic.{Run, run_of, leaves, invokes, is_bus_task, bus_tasks, lives_in, is_sending, of_bus_task, bus_runs, period_of_runs, bus_period, with_mode, of_sender, switch_grid, basic, is_left, plan_in, read_in, is_counted, counted_runs, thinned_period, ends_in, of_end, thinned_grid, thinned, traffic}
use Rattle.rules.specs.ObeysPlan.{ConnectionFits}
use Rattle.rules.proofs.PlanExact.{read_exact}
use Rattle.rules.proofs.PlanKept.{PlanKept, readable_kept}
use Rattle.rules.proofs.Period.{period_divides, runs_divide, divides_mode, divides-modes}

-- ---- P

each-divides : (rs : List Run) → All (λ r. r.period ∣ period_of_runs rs) rs
each-divides rs =
    let m = period_of_runs rs in
    all_of_members rs ((by_each (period_divides m) rs (λ r. by_divides r.period m)).says (sym (runs_divide m rs) ∙ divides-is m m (dvd_refl m)))

module _ (p : Plan) where
  pub thinned-is : p.consumers ≡ true → traffic p ≡ thinned p
  unfolding traffic
  thinned-is e = ap (λ (b : Bool). cond b (thinned p) (basic p)) e

  pub basic-is : p.consumers ≡ false → traffic p ≡ basic p
  unfolding traffic
  basic-is e = ap (λ (b : Bool). cond b (thinned p) (basic p)) e

  bus-counts : (i : Invocation) → of_bus_task p i ≡ true → is_counted p i ≡ true
  unfolding is_counted
  bus-counts i e = rw e

  bus-is-counted : {r : Run} → Memᴰ r (bus_runs p) → Memᴰ r (counted_runs p)
  unfolding bus_runs counted_runs
  bus-is-counted m =
      let s = source (run_of p) (keep (of_bus_task p) p.invocations) m in
      let among = keep-from (of_bus_task p) p.invocations s.among in
      let counts = bus-counts s.one (all_member (keep-passes (of_bus_task p) p.invocations) s.among) in
      Memᴰ.cast (sym s.gives) (member_map (run_of p) (keep_member (is_counted p) counts among))

  -- in the consumer edition also those of the consumers that thin
  pub counted-divides : p.consumers ≡ true → All (λ r. r.period ∣ (traffic p).period) (counted_runs p)
  unfolding thinned thinned_period
  counted-divides e = rw (thinned-is e) (each-divides (counted_runs p))

  pub run-divides : All (λ r. r.period ∣ (traffic p).period) (bus_runs p)
  unfolding basic bus_period
  run-divides = in-edition p.consumers refl
    where
      in-edition : (b : Bool) → p.consumers ≡ b → All (λ r. r.period ∣ (traffic p).period) (bus_runs p)
      in-edition true e = all_of_members (bus_runs p) (λ r m. all_member (counted-divides e) (bus-is-counted m))
      in-edition false e = rw (basic-is e) (each-divides (bus_runs p))

-- ---- G

abbrev GridFits : ℕ → Mode → Type 0
GridFits g μ = (g ∣ μ.period) × (g ∣ μ.switch)

each_divided : (μs : List Mode) → All (GridFits (foldr with_mode 0 μs)) μs
each_divided μs =
    let g = foldr with_mode 0 μs in
    all_of_members μs
    ((by_each (divides_mode g) μs (λ μ. by_and (by_divides g μ.period) (by_divides g μ.switch))).says
    (sym (divides-modes g μs) ∙ divides-is g g (dvd_refl g)))

module _ (p : Plan) where
  some_divided : (test : Mode → Bool) (k : ℕ) → k < length p.modes → test (the_mode p k) ≡ true
      → GridFits (foldr with_mode 0 (keep test p.modes)) (the_mode p k)
  unfolding the_mode
  some_divided test k w e =
      all_member (each_divided (keep test p.modes)) (keep_member test e (member_get_or p.modes no_mode k w))

  -- a sending module holds the producer of a connection
  pub sender_ends : (μ : Mode) → of_sender p μ ≡ true → of_end p μ ≡ true
  unfolding of_sender is_sending of_end ends_in bus_tasks is_bus_task leaves
  sender_ends μ e =
      let t = any_member (lives_in p μ.home) (bus_tasks p) e in
      let bus = all_member (keep-passes (is_bus_task p) (up_to (length p.tasks))) t.among in
      let c = any_member (leaves p t.one) p.connections (both_right (any (invokes t.one) p.invocations) _ bus) in
      let from = eqb-true c.one.producer t.one (both_left _ _ c.passes) in
      any-among (ends_in p μ.home) c.among (rw (from, t.passes))

  -- G in the consumer edition: of the modules that hold an end of a connection
  pub end-divides : p.consumers ≡ true → (k : ℕ) → k < length p.modes → of_end p (the_mode p k) ≡ true
      → ((traffic p).grid ∣ (the_mode p k).period) × ((traffic p).grid ∣ (the_mode p k).switch)
  unfolding thinned thinned_grid
  end-divides e k w o = rw (thinned-is p e) (some_divided (of_end p) k w o)

  pub grid-divides : (k : ℕ) → k < length p.modes → of_sender p (the_mode p k) ≡ true
      → ((traffic p).grid ∣ (the_mode p k).period) × ((traffic p).grid ∣ (the_mode p k).switch)
  unfolding basic switch_grid
  grid-divides k w o = in-edition p.consumers refl
    where
      in-edition : (b : Bool) → p.consumers ≡ b → GridFits (traffic p).grid (the_mode p k)
      in-edition true e = end-divides e k w (sender_ends (the_mode p k) o)
      in-edition false e = rw (basic-is p e) (some_divided (of_sender p) k w o)

-- ---- a plan that is read, in an edition

abbrev Unlike : Connection → Connection → Type 0
Unlike c d = c.producer ≡ d.producer → c.consumer ≡ d.consumer → ⊥

abbrev Apart : Connection → Type 0
Apart c = c.producer ≡ c.consumer → ⊥

module _ (p : Plan) (kept : PlanKept p) where
  all_apart : All Apart p.connections
  unfolding the_connection
  all_apart = all_of_places p.connections no_connection (λ k w. (kept.doubtless k w).apart)

  all_unlike : Pairs Unlike p.connections
  unfolding the_connection
  all_unlike = pairs_of_places p.connections no_connection (λ j k v w. (kept.doubtless k w).once j v)

  left-fits : (k : ℕ) → k < length (plan_in true p).connections → ConnectionFits (plan_in true p) k
  unfolding the_connection
  left-fits k w =
      record {
        apart = all_get_d no_connection (all_keep (is_left p) all_apart) k w;
        once = λ j v. pairs-get_or no_connection (pairs-keep (is_left p) all_unlike) j k v w;
      }

  left-kept : PlanKept (plan_in true p)
  unfolding the_mode the_task the_invocation period_of
  left-kept =
      record {
        node_count = kept.node_count;
        module_count = kept.module_count;
        mode_count = kept.mode_count;
        task_count = kept.task_count;
        invocation_count = kept.invocation_count;
        connection_count = record { least = zero-le; most = omega (arith, length-keep (is_left p) p.connections, kept.connection_count.most) };
        bus = kept.bus;
        modules = kept.modules;
        modes = all_weaker (λ μ h. record { home = h.home; period = h.period; switch = h.switch; divides = h.divides }) kept.modes;
        tasks = all_weaker (λ t h. record { home = h.home; size = h.size; worst = h.worst }) kept.tasks;
        invocations =
            all_weaker
            (λ i h. record {
              mode = h.mode;
              task = h.task;
              rate = h.rate;
              rate_divides = h.rate_divides;
              period_divides = h.period_divides;
              worst = h.worst;
              home = h.home;
            })
            kept.invocations;
        connections =
            all_keep (is_left p) (all_weaker (λ c h. record { producer = h.producer; consumer = h.consumer }) kept.connections);
        has_mode = kept.has_mode;
        once = kept.once;
        doubtless = left-fits;
      }

pub kept_in : (consumers : Bool) (p : Plan) → PlanKept p → PlanKept (plan_in consumers p)
kept_in true p kept = left-kept p kept
kept_in false p kept = kept

pub read-in : (consumers : Bool) (file : List ℕ) (p : Plan) → read_in consumers file ≡ ok p
    → (q : Plan) × (read_plan file ≡ ok q) × (plan_in consumers q ≡ p)
unfolding read_in
read-in consumers file p e =
    bind_case (read_plan file) (λ q. ok (plan_in consumers q)) e (λ q read is. (q, read, ok_injective is))

pub readable_kept_in : (consumers : Bool) (file : List ℕ) (p : Plan) → read_in consumers file ≡ ok p → PlanKept p
readable_kept_in consumers file p e =
    let r = read-in consumers file p e in
    subst PlanKept r.2 (kept_in consumers r.0 (readable_kept file r.0 r.1))

-- a file says nothing of an edition
pub read_plain : (file : List ℕ) (q : Plan) → read_plan file ≡ ok q → q.consumers ≡ false
unfolding plan_of
read_plain file q e = sym (ap (λ (p : Plan). p.consumers) ((read_exact file q).0 e).is)

-- a plan read in an edition is of that edition
pub edition_in : (consumers : Bool) (file : List ℕ) (p : Plan) → read_in consumers file ≡ ok p → p.consumers ≡ consumers
edition_in consumers file p e = let r = read-in consumers file p e in sym (ap (λ (p : Plan). p.consumers) r.2) ∙ of consumers r.0 r.1
  where
    of : (consumers : Bool) (q : Plan) → read_plan file ≡ ok q → (plan_in consumers q).consumers ≡ consumers
    of true q h = refl
    of false q h = read_plain file q h
