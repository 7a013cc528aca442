-- The runs and the grid of what is marked: with the marks of either edition they give P and G. A task's number, and a module's, is a byte
-- in a plan that is read.
use mathlib.Core.Path.{◌≡◌, refl, sym, ap, ◌∙◌}
use mathlib.Core.Bool.{Bool, true, false, cond}
use mathlib.Core.List.{map, foldr}
use native.Mathlib.Omega.{arith}
use Prim.Native.Nat.{ℕ}
use Rattle.laws.specs.Lists.{keep}
use Rattle.laws.proofs.Members.{all_weaker, keep_same}
use Rattle.rules.specs.Plan.{Plan, Invocation, Mode}
use Rattle.rules.specs.Traffic.{
  run_of,
  is_bus_task,
  of_bus_task,
  bus_runs,
  bus_period,
  period_of_runs,
  is_sending,
  of_sender,
  with_mode,
  switch_grid,
  is_counted,
  counted_runs,
  thinned_period,
  of_end,
  thinned_grid,
  basic,
  thinned,
  traffic,
}
use Rattle.rules.proofs.PlanKept.{PlanKept}
use Rattle.bus.specs.Senders.{by_number}
use Rattle.bus.specs.Runs.{is_marked, runs_among, runs_marked}
use Rattle.bus.specs.Period.{is_of_marked, grid_among, grid_marked}
use Rattle.bus.specs.Marks.{is_counted_task, holds_end, gives_period, gives_grid}
use Rattle.bus.proofs.Tables.{at-number}

module _ (p : Plan) (b : Bool) (e : p.consumers ≡ b) where
  pub period-marks : by_number (λ t. cond b (is_counted_task p t) (is_bus_task p t)) ≡ by_number (gives_period p)
  unfolding gives_period
  period-marks = ap (λ (b : Bool). by_number (λ t. cond b (is_counted_task p t) (is_bus_task p t))) (sym e)

  pub grid-marks : by_number (λ m. cond b (holds_end p m) (is_sending p m)) ≡ by_number (gives_grid p)
  unfolding gives_grid
  grid-marks = ap (λ (b : Bool). by_number (λ m. cond b (holds_end p m) (is_sending p m))) (sym e)

module _ (p : Plan) (k : PlanKept p) where
  pub runs-marked : (f : ℕ → Bool) (test : Invocation → Bool) → ((i : Invocation) → f i.task ≡ test i)
      → runs_marked p (by_number f) ≡ map (run_of p) (keep test p.invocations)
  unfolding runs_marked runs_among is_marked
  runs-marked f test same =
      ap (map (run_of p))
      (keep_same (all_weaker (λ i h. at-number f i.task false (omega (arith, h.task, k.task_count.most)) ∙ same i) k.invocations))

  grid-marked : (f : ℕ → Bool) (test : Mode → Bool) → ((μ : Mode) → f μ.home ≡ test μ)
      → grid_marked p (by_number f) ≡ foldr with_mode 0 (keep test p.modes)
  unfolding grid_marked grid_among is_of_marked
  grid-marked f test same =
      ap (foldr with_mode 0)
      (keep_same (all_weaker (λ μ h. at-number f μ.home false (omega (arith, h.home, k.module_count.most)) ∙ same μ) k.modes))

  pub bus-runs-marked : runs_marked p (by_number (is_bus_task p)) ≡ bus_runs p
  unfolding bus_runs of_bus_task
  bus-runs-marked = runs-marked (is_bus_task p) (of_bus_task p) (λ i. refl)

  pub counted-runs-marked : runs_marked p (by_number (is_counted_task p)) ≡ counted_runs p
  unfolding counted_runs is_counted of_bus_task is_counted_task
  counted-runs-marked = runs-marked (is_counted_task p) (is_counted p) (λ i. refl)

  pub sending-grid-marked : grid_marked p (by_number (is_sending p)) ≡ switch_grid p
  unfolding switch_grid of_sender
  sending-grid-marked = grid-marked (is_sending p) (of_sender p) (λ μ. refl)

  pub end-grid-marked : grid_marked p (by_number (holds_end p)) ≡ thinned_grid p
  unfolding thinned_grid of_end holds_end
  end-grid-marked = grid-marked (holds_end p) (of_end p) (λ μ. refl)

  -- ---- in either edition

  period-in : (b : Bool) → period_of_runs (runs_marked p (by_number (λ t. cond b (is_counted_task p t) (is_bus_task p t)))) ≡ (cond b (thinned p) (basic p)).period
  unfolding thinned thinned_period basic bus_period
  period-in true = ap period_of_runs counted-runs-marked
  period-in false = ap period_of_runs bus-runs-marked

  pub period-given : period_of_runs (runs_marked p (by_number (gives_period p))) ≡ (traffic p).period
  unfolding traffic gives_period
  period-given = period-in p.consumers

  grid_in : (b : Bool) → grid_marked p (by_number (λ m. cond b (holds_end p m) (is_sending p m))) ≡ (cond b (thinned p) (basic p)).grid
  unfolding thinned basic
  grid_in true = end-grid-marked
  grid_in false = sending-grid-marked

  pub grid-given : grid_marked p (by_number (gives_grid p)) ≡ (traffic p).grid
  unfolding traffic gives_grid
  grid-given = grid_in p.consumers
