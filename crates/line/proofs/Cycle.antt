-- Refusals 6 to 8.
use mathlib.Core.Path.{◌≡◌, refl, sym, ap, ◌∙◌}
use mathlib.Core.Bool.{Bool, true, false}
use mathlib.Core.List.{List}
use native.Mathlib.Nat.{zero-add, pos_of_dvd_of_pos}
use native.Mathlib.Omega.{arith}
use lib.ListN.{length, length-map}
use Prim.Native.Nat.{ℕ, zero, suc, ◌+◌, ◌≤◌, ◌<◌}
use Rattle.laws.specs.Res.{refuse}
use Rattle.laws.specs.Lists.{any, up_to, keep}
use Rattle.laws.specs.Numbers.{divides}
use Rattle.laws.proofs.Lists.{any-up_to_more, get_or-tab, length-keep}
use Rattle.laws.proofs.Members.{all_get_d}
use Rattle.rules.specs.Plan.{Plan, no_mode, the_mode}
use Rattle.rules.specs.Traffic.{is_bus_task, period_of_runs, traffic, bus_runs, run_of}
use Rattle.rules.specs.Frames.{some_bus_task, layout}
use Rattle.rules.proofs.PlanKept.{PlanKept}
use Rattle.rules.proofs.LaidOut.{sending-mode}
use Rattle.bus.specs.Senders.{by_number}
use Rattle.bus.specs.declared.runs.Runs.{Runs}
use Rattle.bus.specs.Runs.{runs_seen, runs_laid, runs_marked, runs_among, is_marked}
use Rattle.payloads.specs.Tests.{flag_at}
use Rattle.line.specs.Laying.{framing, closing}
use Rattle.rules.proofs.Editions.{grid-divides}
use Rattle.bus.specs.Marks.{gives_period}
use Rattle.bus.proofs.Marked.{bus-runs-marked, period-given}
use Rattle.bus.proofs.Columns.{laid-seen}
use Rattle.rules.specs.Limits.{most_invocations}

any_same : (p q : ℕ → Bool) (n : ℕ) → ((k : ℕ) → k < n → p k ≡ q k) → any p (up_to n) ≡ any q (up_to n)
any_same p q zero h = refl
any_same p q (suc n) h =
    let e : n + 1 ≡ suc n = omega arith in
    ap (λ (x : ℕ). any p (up_to x)) (sym e) ∙ any-up_to_more p n
    ∙ rw (any_same p q n (λ k w. h k (omega arith)), h n (omega arith)) (sym (any-up_to_more q n) ∙ ap (λ (x : ℕ). any q (up_to x)) e)

module _ (p : Plan) (k : PlanKept p) where
  pub some_is : (tasks : List Bool) (n : ℕ) → tasks ≡ by_number (is_bus_task p) → n ≡ length p.tasks → any (flag_at tasks) (up_to n) ≡ some_bus_task p
  unfolding some_bus_task flag_at by_number
  some_is tasks n t e =
      let m : length p.tasks ≤ 32 = k.task_count.most in
      rw (t, e)
      (any_same (flag_at (by_number (is_bus_task p))) (is_bus_task p) (length p.tasks)
      (λ i w. let h : i < 256 = omega arith in get_or-tab (is_bus_task p) 0 256 i false h ∙ ap (is_bus_task p) (zero-add i)))

  pub grid-positive : some_bus_task p ≡ true → 0 < (traffic p).grid
  unfolding the_mode
  grid-positive s =
      let m = sending-mode p k s in
      let μ = all_get_d no_mode k.modes m.mode m.within in
      pos_of_dvd_of_pos (grid-divides p m.mode m.within m.sending).0 μ.period.least

  module _ (runs : Runs) (period-is : period_of_runs (runs_seen runs) ≡ (traffic p).period) where
    pub divides_seven : (grid : ℕ) (b : Bool) → grid ≡ (traffic p).grid → b ≡ divides (period_of_runs (runs_seen runs)) grid → divides (traffic p).period (traffic p).grid ≡ b
    divides_seven grid b g e = sym (e ∙ rw (g, period-is))

    pub divides_eight : (period resolution : ℕ) (b : Bool) → period ≡ period_of_runs (runs_seen runs) → resolution ≡ p.bus.resolution → b ≡ divides resolution period
        → divides p.bus.resolution (traffic p).period ≡ b
    divides_eight period resolution b q r e = sym (e ∙ rw (r, q, period-is))

-- the runs of marked tasks: those of bus tasks, and those that P takes in
module _ (p : Plan) (k : PlanKept p) where
  pub runs_are : (marks : List Bool) → marks ≡ by_number (is_bus_task p) → (runs : Runs) → runs ≡ runs_laid (runs_marked p marks) → runs ≡ runs_laid (bus_runs p)
  runs_are marks m runs r = r ∙ ap (λ (x : List Bool). runs_laid (runs_marked p x)) m ∙ ap runs_laid (bus-runs-marked p k)

  few-marked : (marks : List Bool) → length (runs_marked p marks) ≤ most_invocations
  unfolding runs_marked runs_among
  few-marked marks =
      rw (length-map (keep (is_marked marks) p.invocations) (run_of p))
      (omega (arith, length-keep (is_marked marks) p.invocations, k.invocation_count.most))

  pub counted-period : (marks : List Bool) → marks ≡ by_number (gives_period p) → (runs : Runs) → runs ≡ runs_laid (runs_marked p marks)
      → period_of_runs (runs_seen runs) ≡ (traffic p).period
  counted-period marks m runs r =
      ap (λ (x : Runs). period_of_runs (runs_seen x)) r ∙ ap period_of_runs (laid-seen (runs_marked p marks) (few-marked marks))
      ∙ ap (λ (x : List Bool). period_of_runs (runs_marked p x)) m ∙ period-given p k

pub six : (p : Plan) → some_bus_task p ≡ false → layout p ≡ refuse 6 0
unfolding layout
six p e = rw e

pub seven : (p : Plan) → some_bus_task p ≡ true → divides (traffic p).period (traffic p).grid ≡ false → layout p ≡ refuse 7 0
unfolding layout
seven p e f = rw (e, f)

pub eight : (p : Plan) → some_bus_task p ≡ true → divides (traffic p).period (traffic p).grid ≡ true → divides p.bus.resolution (traffic p).period ≡ false → layout p ≡ refuse 8 0
unfolding layout
eight p e f g = rw (e, f, g)

pub past_eight : (p : Plan) → some_bus_task p ≡ true → divides (traffic p).period (traffic p).grid ≡ true → divides p.bus.resolution (traffic p).period ≡ true → layout p ≡ framing p
unfolding layout framing closing
past_eight p e f g = rw (e, f, g)
