-- The runs of a plan that passed refusals 1 to 7 are as the walk asks for them, in either edition.
use mathlib.Core.Path.{◌≡◌, refl}
use mathlib.Core.Bool.{true}
use mathlib.Core.List.{List}
use native.Mathlib.Nat.{le_of_dvd, pos_of_dvd_of_pos}
use native.Mathlib.Omega.{arith}
use borrow.Author.Tests.{lt-ltb, le-leb}
use lib.ListN.{length, length-map}
use Prim.Native.Nat.{ℕ, ◌≤◌, ◌<◌, ◌∣◌}
use Rattle.laws.specs.Lists.{keep, all}
use Rattle.laws.proofs.Lists.{length-keep}
use Rattle.laws.proofs.Members.{All, empty, also, all_weaker, all_keep, all_map, all_get_d}
use Rattle.rules.specs.Plan.{Plan, Invocation, no_mode, the_mode}
use Rattle.rules.specs.Traffic.{Run, run_of, of_bus_task, bus_runs, traffic}
use Rattle.rules.specs.Frames.{some_bus_task}
use Rattle.rules.proofs.PlanKept.{Between, PlanKept, InvocationKept}
use Rattle.rules.proofs.Editions.{run-divides}
use Rattle.rules.proofs.LaidOut.{sending-mode, period-divides-mode}
use Rattle.rules.proofs.Direct.{run-comes}
use Rattle.bus.specs.declared.runs.Runs.{Runs}
use Rattle.bus.specs.Runs.{runs_laid, runs_seen}
use Rattle.bus.proofs.Columns.{laid-seen}
use Rattle.frames.specs.Walk.{is_fair}

-- what a plan says of a run
record Kept (r : Run) : Type 0 where
  task : r.task < 32
  again : 0 < r.period
  worst : r.worst ≤ r.period

fair_of : (period : ℕ) {rs : List Run} → 0 < period → All Kept rs → All (λ r. r.period ∣ period) rs → all (is_fair period) rs ≡ true
unfolding is_fair
fair_of period h empty empty = refl
fair_of period h (also {x = r} k a) (also d b) =
    rw (lt-ltb r.task 32 k.task, lt-ltb 0 r.period k.again, le-leb r.period period (le_of_dvd h d), le-leb r.worst r.period k.worst)
    (fair_of period h a b)

module _ (p : Plan) (k : PlanKept p) where
  kept : (i : Invocation) → InvocationKept p i → Kept (run_of p i)
  unfolding run_of
  kept i h = let c = run-comes p k i h in record { task = c.0; again = c.1; worst = h.worst }

  pub few-runs : length (bus_runs p) ≤ 64
  unfolding bus_runs
  few-runs =
      rw (length-map (keep (of_bus_task p) p.invocations) (run_of p))
      (omega (arith, length-keep (of_bus_task p) p.invocations, k.invocation_count.most))

  module _ (some : some_bus_task p ≡ true) (d : (traffic p).period ∣ (traffic p).grid) where
    pub short-period : Between 1 1000000 (traffic p).period
    unfolding the_mode
    short-period =
        let m = sending-mode p k some in
        let μ = all_get_d no_mode k.modes m.mode m.within in
        let e = period-divides-mode p k d m in
        record { least = pos_of_dvd_of_pos e μ.period.least; most = omega (arith, le_of_dvd μ.period.least e, μ.period.most) }

    pub fair-runs : all (is_fair (traffic p).period) (bus_runs p) ≡ true
    unfolding bus_runs
    fair-runs =
        fair_of (traffic p).period short-period.least (all_map (run_of p) (all_weaker kept (all_keep (of_bus_task p) k.invocations)))
        (run-divides p)

    -- the same of the runs in memory
    pub runs-fair : {runs : Runs} → runs ≡ runs_laid (bus_runs p) → all (is_fair (traffic p).period) (runs_seen runs) ≡ true
    runs-fair e = rw (e, laid-seen (bus_runs p) few-runs) fair-runs
