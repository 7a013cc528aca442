-- Demand 3 on a task's own node, for one task: its runs end where the one board's do, the out-box holds the run's result once it was
-- given, and it was given when the run ends.
use mathlib.Core.Path.{◌≡◌, refl, sym, ap, ◌∙◌}
use mathlib.Core.Bool.{Bool, true, false, ◌||◌}
use mathlib.Core.List.{List, [], ◌∷◌}
use mathlib.Core.Logic.{◌⊎◌, inl, inr}
use mathlib.Core.Option.{Option, none, some}
use native.Mathlib.Nat.{not-suc-le-zero, dvd_trans, eq-or-lt_of_le, eq-zero-or-pos}
use native.Mathlib.Omega.{arith}
use Prim.Native.Nat.{ℕ, suc, ◌+◌, ◌-◌, ◌%◌, ◌≤◌, ◌<◌, ◌∣◌}
use Rattle.laws.proofs.Lists.{true-false, tested}
use Rattle.laws.proofs.Orders.{le-or-lt}
use Rattle.laws.proofs.Runs.{within_run, run_ends_lem, run_goes, run_anew, run-first, same-multiple, multiple-same}
use Rattle.laws.proofs.Tests.{by_same, by_lt, by_divides, by_and}
use Rattle.rules.specs.Playing.{task_places, Input, is_given}
use Rattle.rules.specs.History.{first_in}
use Rattle.rules.specs.Station.{Kept, State, state_at_start, home_node, run_period, task_age, run_age, ends_now, tick}
use Rattle.rules.specs.OneBoard.{period_now, run_ends, result_within, value}
use Rattle.rules.specs.Obeys.{IsRunning, MayTick}
use Rattle.rules.proofs.StationExact.{none-some, given_case}
use Rattle.rules.proofs.TransparentTick.{
  Ending,
  ending_tests,
  out-kept,
  out-new,
  given_over,
  given-changed,
  given_on,
  shown-own,
  shown-still,
  period-kept,
  task_age-new,
  task_age_on,
  task_age-turns,
  run-age,
  within_none,
  within-some,
  value-ends,
  value-still,
}
use Rattle.rules.proofs.TransparentModes.{ModeOf, FairModule, board_since, Timed, on_case, timed-tick, timed-start}

-- what a plan keeps for a task: it has its place, its module what one has, its worst time is at least a tick and
-- at most a run, and a mode's period is a whole number of runs
pub record FairTask (k : Kept) (t : ℕ) : Type 0 where
  pub in_plan : t < k.tasks
  pub place : t < task_places
  pub home : FairModule k (k.task_home t)
  pub worst : 0 < k.task_worst t
  pub in_run : (μ : ℕ) → ModeOf k (k.task_home t) μ → 0 < k.run μ t → k.task_worst t ≤ k.run μ t
  pub whole_runs : (μ : ℕ) → ModeOf k (k.task_home t) μ → 0 < k.run μ t → k.run μ t ∣ k.mode_period μ

module _ (k : Kept) (first : ℕ → ℕ) (t : ℕ) where
  abbrev pub home_module : ℕ
  home_module = k.task_home t

  abbrev pub board_result : ℕ → List Input → ℕ
  board_result n past = result_within k.task_home k.run first t n past

  abbrev pub board : List Input → ℕ
  board past = value k.task_home k.run first t past

  -- A run without its result is not older than w; a given result is in the out-box; the own node shows the board's value.
  pub record Own (s : State) (past : List Input) : Type 0 where
    pub timed : Timed k first home_module s past
    pub fresh : task_age k s t ≡ 0 → s.given t ≡ false
    pub waits : 0 < run_period k s t → 0 < task_age k s t → s.given t ≡ false → run_age k s t ≤ k.task_worst t
    pub result : 0 < run_period k s t → 0 < task_age k s t → s.given t ≡ true
        → s.out t ≡ board_result ((task_age k s t - 1) % run_period k s t) past
    pub shows : s.shown (home_node k t) t ≡ board past

  module _ (fair : FairTask k t) (s : State) (past : List Input) (h : Timed k first home_module s past) where
    abbrev since : ℕ
    since = board_since k first home_module past

    -- a run ends on the station where it ends on the board

    pub period-is : period_now k.task_home k.run first t past ≡ run_period k s t
    unfolding period_now run_period
    period-is = rw (← h.mode)

    pub whole-turns : 0 < run_period k s t → run_period k s t ∣ since - task_age k s t
    unfolding run_period task_age
    whole-turns p = dvd_trans (run_period k s t) (fair.whole_runs (s.mode home_module) h.known p) h.turns

    pub ends_same : run_ends k.task_home k.run first t past ≡ ends_now k s t
    unfolding run_ends task_age
    ends_same =
        rw (period-is)
        (by_same
        (by_and (by_lt 0 (run_period k s t)) (by_and (by_lt 0 since) (by_divides (run_period k s t) since)))
        (ending_tests k s t)
        (λ e. record {
          invoked = e.0;
          released = older e.1.0;
          whole = same-multiple (run_period k s t) since (task_age k s t) h.behind (whole-turns e.0) e.1.1;
        })
        (λ e. (
          e.invoked,
          (
            omega (arith, h.behind, e.released),
            multiple-same (run_period k s t) since (task_age k s t) h.behind (whole-turns e.invoked) e.whole,
          ),
        )))
      where
        older : 0 < since → 0 < task_age k s t
        older l = born (eq-zero-or-pos (task_age k s t))
          where
            born : (task_age k s t ≡ 0) ⊎ (0 < task_age k s t) → 0 < task_age k s t
            born (inl z) = absurd (omega (arith, h.unborn z))
            born (inr p) = p

  -- ---- results

  module _ (fair : FairTask k t) (s : State) (i : Input) (past : List Input) (may : MayTick k s i) (h : Own s past) where
    abbrev T : ℕ
    T = run_period k s t

    abbrev age : ℕ
    age = task_age k s t

    -- a run that has its result before or at this tick has it in the out-box
    pub result_now : 0 < run_period k s t → 0 < task_age k s t → (s.given t || is_given (i.result t)) ≡ true
        → (tick k s i).out t ≡ board_result (suc ((task_age k s t - 1) % run_period k s t)) (i ∷ past)
    result_now p a g =
        given_case (i.result t) (λ e. had e (s.given t) refl (rw e at g))
        (λ v e. out-new k s i t e ∙ sym (within-some k.task_home k.run first i past t ((age - 1) % T) e))
      where
        had : i.result t ≡ none → (b : Bool) → s.given t ≡ b → (b || false) ≡ true
            → (tick k s i).out t ≡ board_result (suc ((age - 1) % T)) (i ∷ past)
        had e true q r =
            out-kept k s i t e ∙ h.result p a q ∙ sym (within_none k.task_home k.run first i past t ((age - 1) % T) e)
        had e false q r = true-false (sym r)

    -- at age w, and from then on, a result was given
    pub had_by : 0 < run_period k s t → 0 < task_age k s t → k.task_worst t ≤ run_age k s t → (s.given t || is_given (i.result t)) ≡ true
    had_by p a w = given (s.given t) refl
      where
        now : (o : Option ℕ) → (v : ℕ) × (o ≡ some v) → is_given o ≡ true
        now none f = none-some f.1
        now (some v) f = refl

        given : (b : Bool) → s.given t ≡ b → (b || is_given (i.result t)) ≡ true
        given true q = refl
        given false q =
            let r : IsRunning k s t = record { in_plan = fair.in_plan; invoked = p; released = a } in
            now (i.result t) (may.in_time t fair.place r (omega (arith, h.waits p a q)) q)

    in-run : 0 < run_period k s t → k.task_worst t ≤ run_period k s t
    unfolding run_period
    in-run p = fair.in_run (s.mode home_module) h.timed.known p

    pub had_at-end : Ending k s t → (s.given t || is_given (i.result t)) ≡ true
    had_at-end e =
        let r : run_age k s t ≡ T = run-age k s t ∙ run_ends_lem T age e.invoked e.released e.whole in
        had_by e.invoked e.released (omega (arith, in-run e.invoked))

    pub result-at-end : Ending k s t → (tick k s i).out t ≡ board_result T (i ∷ past)
    result-at-end e =
        let r : suc ((age - 1) % T) ≡ T = omega (arith, run_ends_lem T age e.invoked e.released e.whole) in
        result_now e.invoked e.released (had_at-end e) ∙ ap (λ (n : ℕ). board_result n (i ∷ past)) r

    -- ---- the step

    -- no result is taken before the first run
    quiet_unborn : task_age k s t ≡ 0 → i.result t ≡ none
    quiet_unborn z =
        given_case (i.result t) (λ e. e)
        (λ v e. absurd (omega (arith, (may.awaited t v fair.place e).running.released)))

    -- a result that is given now was not given before
    pub quiet_given : s.given t ≡ true → i.result t ≡ none
    quiet_given g =
        given_case (i.result t) (λ e. e)
        (λ v e. true-false (sym g ∙ (may.awaited t v fair.place e).first))

    -- within a run the age goes on by one
    on_within : 0 < run_period k s t → (T ∣ age → ⊥) → i.change home_module ≡ none → task_age k (tick k s i) t ≡ age + 1
    unfolding run_period task_age
    on_within p d e = which (eq-or-lt_of_le h.timed.young)
      where
        whole : task_age k s t ≡ k.mode_period (s.mode home_module) → run_period k s t ∣ task_age k s t
        whole q = rw q (fair.whole_runs (s.mode home_module) h.timed.known p)

        which : (task_age k s t ≡ k.mode_period (s.mode home_module)) ⊎ (task_age k s t < k.mode_period (s.mode home_module))
            → task_age k (tick k s i) t ≡ task_age k s t + 1
        which (inl q) = absurd (d (whole q))
        which (inr l) = task_age_on k s i t e l

    pub born : 0 < task_age k (tick k s i) t
    unfolding task_age
    born =
        on_case k first home_module fair.home s i past may h.timed
        (λ μ e known. omega (arith, task_age-new k s i t e))
        (λ e l. omega (arith, task_age_on k s i t e l))
        (λ e q. omega (arith, task_age-turns k s i t e (omega arith)))

    given-unborn : task_age k s t ≡ 0 → i.change home_module ≡ none → ends_now k s t ≡ false → (tick k s i).given t ≡ false
    given-unborn z e q = rw (given_on k s i t q e, h.fresh z, quiet_unborn z)

    not_ending : 0 < run_period k s t → 0 < task_age k s t → ends_now k s t ≡ false → T ∣ age → ⊥
    not_ending p a q d = true-false (sym ((ending_tests k s t).passes (record { invoked = p; released = a; whole = d })) ∙ q)

    -- without a change a run begins, which has no result yet, or the run under way goes on
    pub goes_case : {C : Type 0} → i.change home_module ≡ none → 0 < run_period k s t
        → (run_age k (tick k s i) t ≡ 1 → (tick k s i).given t ≡ false → C)
        → (0 < task_age k s t → ends_now k s t ≡ false → task_age k (tick k s i) t ≡ task_age k s t + 1
        → run_age k (tick k s i) t ≡ run_age k s t + 1 → C)
        → C
    unfolding task_age
    goes_case {C} e p anew goes = which (tested (ends_now k s t)) (eq-zero-or-pos (task_age k s t))
      where
        run_is : run_age k (tick k s i) t ≡ within_run (task_age k (tick k s i) t) T
        run_is = run-age k (tick k s i) t ∙ ap (λ (x : ℕ). within_run (task_age k (tick k s i) t) x) (period-kept k s i t e)

        first-age : task_age k (tick k s i) t ≡ 1 → run_age k (tick k s i) t ≡ 1
        first-age q = run_is ∙ ap (λ (x : ℕ). within_run x T) q ∙ run-first T

        after-end : Ending k s t → run_age k (tick k s i) t ≡ 1
        after-end d =
            on_case k first home_module fair.home s i past may h.timed
            (λ μ q known. none-some (sym e ∙ q))
            (λ q l. run_is ∙ ap (λ (x : ℕ). within_run x T) (task_age_on k s i t e l) ∙ run_anew T age p d.whole)
            (λ q l. first-age (task_age-turns k s i t e (omega arith)))

        at_first : task_age k s t ≡ 0 → task_age k (tick k s i) t ≡ 1
        at_first z =
            let l : 0 < k.mode_period (s.mode home_module) = fair.home.mode_period (s.mode home_module) h.timed.known in
            omega (arith, task_age_on k s i t e (omega arith))

        which : (ends_now k s t ≡ true) ⊎ (ends_now k s t ≡ false) → (task_age k s t ≡ 0) ⊎ (0 < task_age k s t) → C
        which (inl q) _ = anew (after-end ((ending_tests k s t).says q)) (given_over k s i t q)
        which (inr q) (inl z) = anew (first-age (at_first z)) (given-unborn z e q)
        which (inr q) (inr a) =
            let n : task_age k (tick k s i) t ≡ age + 1 = on_within p (not_ending p a q) e in
            let r : within_run (age + 1) T ≡ within_run age T + 1 = run_goes T age p a (not_ending p a q) in
            goes a q n (run_is ∙ ap (λ (x : ℕ). within_run x T) n ∙ r ∙ ap (λ (x : ℕ). x + 1) (sym (run-age k s t)))

    waits_on : i.change home_module ≡ none → 0 < run_period k (tick k s i) t → (tick k s i).given t ≡ false
        → run_age k (tick k s i) t ≤ k.task_worst t
    waits_on e p' g =
        let p : 0 < T = rw (period-kept k s i t e) at p' in
        goes_case e p
        (λ r q. omega (arith, fair.worst))
        (λ a q n r. late p a (rw (given_on k s i t q e) at g) r)
      where
        late : 0 < T → 0 < age → (s.given t || is_given (i.result t)) ≡ false → run_age k (tick k s i) t ≡ run_age k s t + 1
            → run_age k (tick k s i) t ≤ k.task_worst t
        late p a q r = by_worst (le-or-lt (k.task_worst t) (run_age k s t))
          where
            by_worst : (k.task_worst t ≤ run_age k s t) ⊎ (run_age k s t < k.task_worst t) → run_age k (tick k s i) t ≤ k.task_worst t
            by_worst (inl w) = true-false (sym (had_by p a w) ∙ q)
            by_worst (inr w) = omega arith

    result_on : i.change home_module ≡ none → 0 < run_period k (tick k s i) t → (tick k s i).given t ≡ true
        → (tick k s i).out t ≡ board_result ((task_age k (tick k s i) t - 1) % run_period k (tick k s i) t) (i ∷ past)
    result_on e p' g =
        let same : run_period k (tick k s i) t ≡ T = period-kept k s i t e in
        let p : 0 < T = rw same at p' in
        goes_case e p
        (λ r q. true-false (sym g ∙ q))
        (λ a q n r.
        let place : suc ((age - 1) % T) ≡ (task_age k (tick k s i) t - 1) % run_period k (tick k s i) t =
        omega (arith, r, run-age k s t, run-age k (tick k s i) t) in
        result_now p a (sym (given_on k s i t q e) ∙ g) ∙ ap (λ (x : ℕ). board_result x (i ∷ past)) place)

    shows_on : (tick k s i).shown (home_node k t) t ≡ board (i ∷ past)
    shows_on = which (tested (ends_now k s t))
      where
        which : (ends_now k s t ≡ true) ⊎ (ends_now k s t ≡ false) → (tick k s i).shown (home_node k t) t ≡ board (i ∷ past)
        which (inl q) =
            shown-own k s i t q ∙ result-at-end ((ending_tests k s t).says q)
            ∙ ap (λ (x : ℕ). board_result x (i ∷ past)) (sym (period-is fair s past h.timed))
            ∙ sym (value-ends k.task_home k.run first i past t (ends_same fair s past h.timed ∙ q))
        which (inr q) =
            shown-still k s i t (home_node k t) q ∙ h.shows
            ∙ sym (value-still k.task_home k.run first i past t (ends_same fair s past h.timed ∙ q))

    pub own_on : Own (tick k s i) (i ∷ past)
    own_on =
        record {
          timed = timed-tick k first home_module fair.home s i past may h.timed;
          fresh = λ z. absurd (omega (arith, born));
          waits = λ p a g. given_case (i.change home_module) (λ e. waits_on e p g) (λ μ e. first_run μ e);
          result = λ p a g. given_case (i.change home_module) (λ e. result_on e p g) (λ μ e. true-false (sym g ∙ given-changed k s i t e));
          shows = shows_on;
        }
      where
        first_run : (μ : ℕ) → i.change home_module ≡ some μ → run_age k (tick k s i) t ≤ k.task_worst t
        first_run μ e =
            let r : run_age k (tick k s i) t ≡ 1 =
            run-age k (tick k s i) t ∙ ap (λ (x : ℕ). within_run x (run_period k (tick k s i) t)) (task_age-new k s i t e)
            ∙ run-first (run_period k (tick k s i) t) in
            omega (arith, fair.worst)

-- at the beginning
pub own-start : (k : Kept) (starting : ℕ → Option ℕ) (t : ℕ) → ModeOf k (k.task_home t) (first_in starting (k.task_home t))
    → Own k (first_in starting) t (state_at_start starting) []
unfolding state_at_start task_age value
own-start k starting t known =
    record {
      timed = timed-start k starting (k.task_home t) known;
      fresh = λ z. refl;
      waits = λ p a g. absurd (not-suc-le-zero a);
      result = λ p a g. absurd (not-suc-le-zero a);
      shows = refl;
    }
