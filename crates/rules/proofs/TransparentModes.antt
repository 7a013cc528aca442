-- Demand 3, the modes: for one module, with tasks or without, the mode is the one board's, and the age is the board's but for whole
-- periods of the mode. If it is sending, its modes begin only where a bus cycle does, and age and bus time differ by whole cycles.
use mathlib.Core.Path.{◌≡◌, refl, sym, ap, ◌∙◌}
use mathlib.Core.List.{List, [], ◌∷◌}
use mathlib.Core.Logic.{◌⊎◌, inl, inr}
use mathlib.Core.Option.{Option, none, some}
use native.Mathlib.Nat.{dvd_refl, dvd-zero, dvd-add, dvd_trans, le_of_dvd, eq-or-lt_of_le, eq-zero-or-pos, mod_self, zero-mod}
use native.Mathlib.Omega.{arith}
use Prim.Native.Nat.{ℕ, ◌+◌, ◌-◌, ◌%◌, ◌≤◌, ◌<◌, ◌∣◌, zero-le}
use Rattle.laws.proofs.Runs.{same-multiple, multiple-same}
use Rattle.rules.specs.Playing.{module_places, Input}
use Rattle.rules.specs.History.{first_in}
use Rattle.rules.specs.Heard.{bus_time}
use Rattle.rules.specs.Station.{Kept, State, state_at_start, tick}
use Rattle.rules.specs.OneBoard.{mode_now, since_mode}
use Rattle.rules.specs.Obeys.{MayTick}
use Rattle.rules.proofs.StationExact.{given_case}
use Rattle.rules.proofs.TransparentTick.{clock_on, clock-turns, clock-time, mode-kept, mode-new, age-new, age_on}
use Rattle.rules.proofs.TransparentTick.{age-turns, mode_now-kept, mode_now-new, since_on, since-new}

-- a mode of the module
pub record ModeOf (k : Kept) (m μ : ℕ) : Type 0 where
  pub there : μ < k.modes
  pub own : k.mode_home μ ≡ m

-- what a plan keeps for a module: it has its place, and each of its modes has a period, a whole number of its switch periods
pub record FairModule (k : Kept) (m : ℕ) : Type 0 where
  pub place : m < module_places
  pub mode_period : (μ : ℕ) → ModeOf k m μ → 0 < k.mode_period μ
  pub whole_switches : (μ : ℕ) → ModeOf k m μ → k.mode_switch μ ∣ k.mode_period μ

module _ (k : Kept) (first : ℕ → ℕ) (m : ℕ) where
  abbrev pub board_since : List Input → ℕ
  board_since past = since_mode k.task_home k.run first m past

  -- the invariant
  pub record Timed (s : State) (past : List Input) : Type 0 where
    pub mode : s.mode m ≡ mode_now k.task_home k.run first m past
    pub known : ModeOf k m (s.mode m)
    pub behind : s.age m ≤ board_since past
    pub turns : k.mode_period (s.mode m) ∣ board_since past - s.age m
    pub unborn : s.age m ≡ 0 → board_since past ≡ 0
    pub young : s.age m ≤ k.mode_period (s.mode m)

  module _ (fair : FairModule k m) (s : State) (i : Input) (past : List Input) (may : MayTick k s i) (h : Timed s past) where
    abbrev period : ℕ
    period = k.mode_period (s.mode m)

    -- the three ways on: a change, a tick within the mode's period, its last tick
    pub on_case : {C : Type 0}
        → ((μ : ℕ) → i.change m ≡ some μ → ModeOf k m μ → C)
        → (i.change m ≡ none → s.age m < period → C)
        → (i.change m ≡ none → s.age m ≡ period → C) → C
    on_case {C} changed on turns =
        given_case (i.change m) (λ e. within e (eq-or-lt_of_le h.young))
        (λ μ e. let c = may.allowed m μ fair.place e in changed μ e (record { there = c.is_mode; own = c.own }))
      where
        within : i.change m ≡ none → (s.age m ≡ period) ⊎ (s.age m < period) → C
        within e (inl q) = turns e q
        within e (inr l) = on e l

    timed-changed : (μ : ℕ) → i.change m ≡ some μ → ModeOf k m μ → Timed (tick k s i) (i ∷ past)
    timed-changed μ e known =
        let q : (tick k s i).mode m ≡ μ = mode-new k s i m e in
        let a : (tick k s i).age m ≡ 1 = age-new k s i m e in
        let b : board_since (i ∷ past) ≡ 1 = since-new k.task_home k.run first i past m e in
        record {
          mode = q ∙ sym (mode_now-new k.task_home k.run first i past m e);
          known = rw q known;
          behind = omega arith;
          turns = rw (a, b) (dvd-zero (k.mode_period ((tick k s i).mode m)));
          unborn = λ z. absurd (omega arith);
          young = rw (a, q) (fair.mode_period μ known);
        }

    timed_on : i.change m ≡ none → s.age m < period → Timed (tick k s i) (i ∷ past)
    timed_on e l =
        let q : (tick k s i).mode m ≡ s.mode m = mode-kept k s i m e in
        let a : (tick k s i).age m ≡ s.age m + 1 = age_on k s i m e l in
        let b : board_since (i ∷ past) ≡ board_since past + 1 = since_on k.task_home k.run first i past m e in
        let d : board_since past + 1 - (s.age m + 1) ≡ board_since past - s.age m = omega arith in
        record {
          mode = q ∙ h.mode ∙ sym (mode_now-kept k.task_home k.run first i past m e);
          known = rw q h.known;
          behind = omega (arith, h.behind);
          turns = rw (a, b, q, d) h.turns;
          unborn = λ z. absurd (omega arith);
          young = rw (a, q) (omega arith);
        }

    timed-turns : i.change m ≡ none → s.age m ≡ period → Timed (tick k s i) (i ∷ past)
    timed-turns e z =
        let q : (tick k s i).mode m ≡ s.mode m = mode-kept k s i m e in
        let a : (tick k s i).age m ≡ 1 = age-turns k s i m e (omega arith) in
        let b : board_since (i ∷ past) ≡ board_since past + 1 = since_on k.task_home k.run first i past m e in
        let d : board_since past + 1 - 1 ≡ board_since past - s.age m + period = omega (arith, h.behind) in
        record {
          mode = q ∙ h.mode ∙ sym (mode_now-kept k.task_home k.run first i past m e);
          known = rw q h.known;
          behind = omega arith;
          turns = rw (a, b, q, d) (dvd-add period h.turns (dvd_refl period));
          unborn = λ z. absurd (omega arith);
          young = rw (a, q) (fair.mode_period (s.mode m) h.known);
        }

    pub timed-tick : Timed (tick k s i) (i ∷ past)
    timed-tick = on_case timed-changed timed_on timed-turns

-- at the beginning
pub timed-start : (k : Kept) (starting : ℕ → Option ℕ) (m : ℕ) → ModeOf k m (first_in starting m)
    → Timed k (first_in starting) m (state_at_start starting) []
unfolding state_at_start mode_now since_mode first_in
timed-start k starting m known =
    record {
      mode = refl;
      known = known;
      behind = zero-le;
      turns = dvd-zero (k.mode_period (first_in starting m));
      unborn = λ z. refl;
      young = zero-le;
    }

-- ---- bus time

-- what a passed table keeps for a sending module: P divides what its modes are timed by
pub record FairCycle (k : Kept) (m : ℕ) : Type 0 where
  pub cycle : 0 < k.period
  pub switches : (μ : ℕ) → ModeOf k m μ → k.period ∣ k.mode_switch μ
  pub modes : (μ : ℕ) → ModeOf k m μ → k.period ∣ k.mode_period μ

-- the invariant
pub record Beats (k : Kept) (m : ℕ) (s : State) (past : List Input) : Type 0 where
  pub time : s.clock ≡ bus_time k.period past
  pub in_cycle : s.clock ≤ k.period
  pub beat : s.clock ≤ s.age m
  pub aligned : k.period ∣ s.age m - s.clock
  pub unbegun : s.clock ≡ 0 → s.age m ≡ 0

module _ (k : Kept) (first : ℕ → ℕ) (m : ℕ) where
  module _ (fair : FairModule k m) (bus : FairCycle k m) (s : State) (i : Input) (past : List Input) (may : MayTick k s i)
      (timed : Timed k first m s past) (h : Beats k m s past) where
    -- the two ways on: within a cycle, or where one begins
    pub cycle_case : {C : Type 0} → (0 < s.clock → s.clock < k.period → C)
        → (s.clock % k.period ≡ 0 → (tick k s i).clock ≡ 1 → k.period ∣ s.age m → C) → C
    cycle_case {C} within anew = which (eq-zero-or-pos s.clock) (eq-or-lt_of_le h.in_cycle)
      where
        which : (s.clock ≡ 0) ⊎ (0 < s.clock) → (s.clock ≡ k.period) ⊎ (s.clock < k.period) → C
        which (inl z) _ =
            anew (rw z (zero-mod k.period)) (clock_on k s i (rw z bus.cycle) ∙ ap (λ (x : ℕ). x + 1) z)
            (rw (h.unbegun z) (dvd-zero k.period))
        which (inr p) (inl e) =
            anew (rw e (mod_self k.period)) (clock-turns k s i (omega arith))
            (multiple-same k.period (s.age m) s.clock h.beat h.aligned (rw e (dvd_refl k.period)))
        which (inr p) (inr l) = within p l

    module _ (low : 0 < s.clock) (high : s.clock < k.period) where
      not-whole : k.period ∣ s.age m → ⊥
      not-whole d =
          absurd (omega (arith, le_of_dvd low (same-multiple k.period (s.age m) s.clock h.beat h.aligned d)))

      pub still : i.change m ≡ none
      still =
          given_case (i.change m) (λ e. e)
          (λ μ e. absurd (not-whole
          (dvd_trans k.period (bus.switches (s.mode m) timed.known) (may.allowed m μ fair.place e).instant)))

      age-within : (tick k s i).age m ≡ s.age m + 1
      age-within = which (eq-or-lt_of_le timed.young)
        where
          which : (s.age m ≡ k.mode_period (s.mode m)) ⊎ (s.age m < k.mode_period (s.mode m)) → (tick k s i).age m ≡ s.age m + 1
          which (inl e) = absurd (not-whole (rw e (bus.modes (s.mode m) timed.known)))
          which (inr l) = age_on k s i m still l

      beats-within : Beats k m (tick k s i) (i ∷ past)
      beats-within =
          let c : (tick k s i).clock ≡ s.clock + 1 = clock_on k s i high in
          let d : s.age m + 1 - (s.clock + 1) ≡ s.age m - s.clock = omega arith in
          record {
            time = clock-time k s i past h.time;
            in_cycle = omega arith;
            beat = omega (arith, age-within, h.beat);
            aligned = rw (age-within, c, d) h.aligned;
            unbegun = λ z. absurd (omega arith);
          }

    module _ (one : (tick k s i).clock ≡ 1) (whole : k.period ∣ s.age m) where
      born : 0 < (tick k s i).age m
      born =
          on_case k first m fair s i past may timed
          (λ μ e known. omega (arith, age-new k s i m e))
          (λ e l. omega (arith, age_on k s i m e l))
          (λ e q. omega (arith, age-turns k s i m e (omega arith)))

      aligned_anew : k.period ∣ (tick k s i).age m - (tick k s i).clock
      aligned_anew =
          on_case k first m fair s i past may timed
          (λ μ e known. rw (age-new k s i m e, one) (dvd-zero k.period))
          (λ e l. let d : s.age m + 1 - 1 ≡ s.age m = omega arith in rw (age_on k s i m e l, one, d) whole)
          (λ e q. rw (age-turns k s i m e (omega arith), one) (dvd-zero k.period))

      beats_anew : Beats k m (tick k s i) (i ∷ past)
      beats_anew =
          record {
            time = clock-time k s i past h.time;
            in_cycle = omega (arith, one, bus.cycle);
            beat = omega (arith, one, born);
            aligned = aligned_anew;
            unbegun = λ z. absurd (omega (arith, one));
          }

    pub beats-tick : Beats k m (tick k s i) (i ∷ past)
    beats-tick = cycle_case beats-within (λ turn one whole. beats_anew one whole)

pub beats-start : (k : Kept) (starting : ℕ → Option ℕ) (m : ℕ) → Beats k m (state_at_start starting) []
unfolding state_at_start bus_time
beats-start k starting m =
    record { time = refl; in_cycle = zero-le; beat = zero-le; aligned = dvd-zero k.period; unbegun = λ z. refl }
