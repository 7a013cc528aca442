-- Demand 3 where only what is read is sent. What another node hears of a task is the one board's value, or the last run that ended in this
-- cycle has no message because nothing reads it. Every run end keeps this: the message with deadline P is read by all, so where a cycle
-- begins, and only there modes change, the two agree. At a release of a consumer the bus time is a multiple of its period, so that the
-- message of the last run that ended is one that it reads.
use mathlib.Core.Path.{◌≡◌, refl, sym, ap, ◌∙◌, subst, fun_ext}
use mathlib.Core.Bool.{Bool, true, false, not, ◌&&◌}
use mathlib.Core.List.Memᴰ
use mathlib.Core.List.{List, [], ◌∷◌, Memᴰ}
use mathlib.Core.Logic.{◌⊎◌, inl, inr}
use mathlib.Core.Option.{Option}
use native.Mathlib.Nat.{dvd-add, dvd_refl, dvd_trans, dvd_of_mod-eq-zero, le_of_dvd, eq-or-lt_of_le, le_refl, le_antisymm}
use native.Mathlib.Omega.{arith}
use borrow.Author.Tests.{eqb-true, eqb-false, eq-eqb, ne_eqb, lt-ltb}
use lib.Dec.{eqb}
use lib.ListN.{length}
use Prim.Native.Nat.{ℕ, ◌+◌, ◌-◌, ◌%◌, ◌≤◌, ◌<◌, ◌∣◌}
use Rattle.laws.specs.Res.{ok}
use Rattle.laws.specs.Lists.{any}
use Rattle.laws.specs.Numbers.{up}
use Rattle.laws.proofs.Members.{all_member, any-among, keep_member, member_map}
use Rattle.laws.proofs.Tests.{by_or, by_eq}
use Rattle.laws.proofs.Readers.{up_least}
use Rattle.rules.specs.Plan.{Invocation, Connection, Plan, the_mode, the_task, period_of, read_plan}
use Rattle.rules.specs.Traffic.{module_node, task_node, invokes, leaves, is_bus_task, lives_in, ends_in, of_end, is_left, is_invoked, can_be_thinned, traffic, plan_in, read_in}
use Rattle.rules.specs.Readers.{is_read, is_read_by, needs_all, leads_to, is_reader, is_thinned, readers_of}
use Rattle.rules.specs.Frames.{Layout, layout_of}
use Rattle.rules.specs.Checker.{TableRead, is_for_consumers}
use Rattle.rules.specs.Told.{ReleasedIn, Tells, ShowsRead}
use Rattle.rules.proofs.PlanKept.{PlanKept, readable_kept}
use Rattle.rules.proofs.LaidOut.{LaidOut, period-kept as cycle-kept}
use Rattle.rules.proofs.ReadersGo.{InEdition, edition-kept}
use Rattle.rules.proofs.Editions.{end-divides, readable_kept_in, read_plain}
use Rattle.rules.proofs.AllRead.{basic-whole}
use Rattle.rules.proofs.Needed.{readers_some, readers_go, kept-at_P}
use Rattle.rules.proofs.Sent.{run_in, has_means}
use Rattle.laws.proofs.Lists.{true-false, both, both_left, both_right, tested}
use Rattle.laws.proofs.Runs.{same-multiple, multiple-same}
use Rattle.rules.specs.Playing.{Input, period_among, period_in}
use Rattle.rules.specs.Station.{Kept, State, Begun, begin, kept_of, state_at_start, run_period, task_age, ends_now, has_message, tick}
use Rattle.rules.specs.History.{played, home_in, first_in, board_value, brings, consumes}
use Rattle.rules.specs.Heard.{bus_time, heard, heard_value}
use Rattle.rules.specs.OneBoard.{mode_now, value}
use Rattle.rules.specs.Obeys.{MayTick, ObeysTable}
use Rattle.rules.proofs.TransparentTick.{Ending, ending_tests, clock_on, mode-kept, period-kept, value-ends, value-still, heard-ends, heard-still}
use Rattle.rules.proofs.TransparentModes.{ModeOf, FairModule, FairCycle, board_since, Timed, timed-tick, timed-start, Beats, beats-tick, beats-start, cycle_case, still}
use Rattle.rules.proofs.TransparentOwn.{FairTask, board, Own, ends_same}
use Rattle.rules.proofs.TransparentBus.{FairBus, sent_in, heard_in, run-aligned, ends_in_cycle, started-clock}
use Rattle.rules.proofs.TransparentPlan.{kept_for, fair_module, fair-task, fair-bus, sent_is}
use Rattle.rules.proofs.Transparent.{Beginning, facts, same-plan, plays_on, first_of, heard-is, shows-idle, uninvoked, transparent_own, transparent_heard, transparent_bus, along, timed_along, fair-home, Sending, sending-start, sending_on}
use Rattle.rules.proofs.TransparentTold.{IsNow, in_mode_now, value-told, shown-told, shown-told-own}

-- the message with deadline P: each mode that invokes the task has it
abbrev pub LastIsSent : Kept → ℕ → Type 0
LastIsSent k t = (μ : ℕ) → ModeOf k (k.task_home t) μ → 0 < k.run μ t → has_message k t μ k.period ≡ true

-- the last run that ended in this cycle ended at `deadline`, and has no message
pub record Dropped (k : Kept) (t : ℕ) (s : State) : Type 0 where
  pub deadline : ℕ
  pub invoked : 0 < run_period k s t
  pub whole : run_period k s t ∣ deadline
  pub low : 0 < deadline
  pub behind : deadline < s.clock
  pub near : s.clock ≤ deadline + run_period k s t
  pub unsent : has_message k t (s.mode (k.task_home t)) deadline ≡ false

module _ (k : Kept) (first : ℕ → ℕ) (t : ℕ) where
  -- the invariant
  abbrev pub Hears : State → List Input → Type 0
  Hears s past = (heard_in k first t past ≡ board k first t past) ⊎ Dropped k t s

  module _ (fair : FairTask k t) (bus : FairBus k t) (last : LastIsSent k t) (s : State) (i : Input) (past : List Input) (may : MayTick k s i)
      (own : Own k first t s past) (beats : Beats k (k.task_home t) s past) where
    abbrev running : ℕ
    running = s.mode (k.task_home t)

    -- a run that ends, with its message or without, and a tick at which none does
    heard-sent : ends_now k s t ≡ true → has_message k t running s.clock ≡ true → heard_in k first t (i ∷ past) ≡ board k first t (i ∷ past)
    heard-sent q m =
        let ends = ends_same k first t fair s past own.timed ∙ q in
        let sent : has_message k t (mode_now k.task_home k.run first (k.task_home t) past) (bus_time k.period past) ≡ true =
        rw (← own.timed.mode, ← beats.time) m in
        heard-ends k.task_home k.run first k.period (sent_in k) i past t ends sent
        ∙ sym (value-ends k.task_home k.run first i past t ends)

    heard_quiet : ends_now k s t ≡ false → heard_in k first t past ≡ board k first t past
        → heard_in k first t (i ∷ past) ≡ board k first t (i ∷ past)
    heard_quiet q e =
        let ends = ends_same k first t fair s past own.timed ∙ q in
        heard-still k.task_home k.run first k.period (sent_in k) i past t ends ∙ e
        ∙ sym (value-still k.task_home k.run first i past t ends)

    -- a multiple of the period in bus time is the end of a run
    ends_at : 0 < run_period k s t → 0 < s.clock → run_period k s t ∣ s.clock → ends_now k s t ≡ true
    unfolding task_age
    ends_at invoked begun whole =
        (ending_tests k s t).passes
        (record {
          invoked = invoked;
          released = omega (arith, beats.beat);
          whole = multiple-same (run_period k s t) (task_age k s t) s.clock beats.beat (run-aligned k first t bus s past own beats invoked) whole;
        })

    module _ (low : 0 < s.clock) (high : s.clock < k.period) where
      same-mode : (tick k s i).mode (k.task_home t) ≡ running
      same-mode = mode-kept k s i (k.task_home t) (still k first (k.task_home t) fair.home bus.cycles s i past may own.timed beats low high)

      same-period : run_period k (tick k s i) t ≡ run_period k s t
      same-period = period-kept k s i t (still k first (k.task_home t) fair.home bus.cycles s i past may own.timed beats low high)

      drops : ends_now k s t ≡ true → has_message k t running s.clock ≡ false → Dropped k t (tick k s i)
      drops q m =
          let e = (ending_tests k s t).says q in
          record {
            deadline = s.clock;
            invoked = rw same-period e.invoked;
            whole = rw same-period (ends_in_cycle k first t bus s past own beats e);
            low = low;
            behind = omega (arith, clock_on k s i high);
            near = omega (arith, clock_on k s i high, same-period, e.invoked);
            unsent = rw same-mode m;
          }

      stays_dropped : ends_now k s t ≡ false → Dropped k t s → Dropped k t (tick k s i)
      stays_dropped q d =
          record {
            deadline = d.deadline;
            invoked = rw same-period d.invoked;
            whole = rw same-period d.whole;
            low = d.low;
            behind = omega (arith, clock_on k s i high, d.behind);
            near = which (eq-or-lt_of_le d.near);
            unsent = rw same-mode d.unsent;
          }
        where
          which : (s.clock ≡ d.deadline + run_period k s t) ⊎ (s.clock < d.deadline + run_period k s t)
              → (tick k s i).clock ≤ d.deadline + run_period k (tick k s i) t
          which (inl e) =
              let whole = subst (λ (x : ℕ). run_period k s t ∣ x) (sym e) (dvd-add (run_period k s t) d.whole (dvd_refl (run_period k s t))) in
              true-false (sym (ends_at d.invoked low whole) ∙ q)
          which (inr l) = omega (arith, clock_on k s i high, same-period)

      hears_within : Hears s past → Hears (tick k s i) (i ∷ past)
      hears_within h = which (tested (ends_now k s t)) h
        where
          sent-or-not : ends_now k s t ≡ true → (has_message k t running s.clock ≡ true) ⊎ (has_message k t running s.clock ≡ false)
              → Hears (tick k s i) (i ∷ past)
          sent-or-not q (inl m) = inl (heard-sent q m)
          sent-or-not q (inr m) = inr (drops q m)

          which : (ends_now k s t ≡ true) ⊎ (ends_now k s t ≡ false) → Hears s past → Hears (tick k s i) (i ∷ past)
          which (inl q) h = sent-or-not q (tested (has_message k t running s.clock))
          which (inr q) (inl e) = inl (heard_quiet q e)
          which (inr q) (inr d) = inr (stays_dropped q d)

    -- where a cycle ends its last message is sent
    module _ (turn : s.clock % k.period ≡ 0) where
      at-end : 0 < s.clock → s.clock ≡ k.period
      at-end l = le_antisymm beats.in_cycle (le_of_dvd l (dvd_of_mod-eq-zero k.period turn))

      hears_anew : Hears s past → Hears (tick k s i) (i ∷ past)
      unfolding run_period
      hears_anew h = which (tested (ends_now k s t)) h
        where
          sent : Ending k s t → has_message k t running s.clock ≡ true
          sent e = rw (at-end (started-clock k first t bus s past own beats e.released)) (last running own.timed.known e.invoked)

          which : (ends_now k s t ≡ true) ⊎ (ends_now k s t ≡ false) → Hears s past → Hears (tick k s i) (i ∷ past)
          which (inl q) h = inl (heard-sent q (sent ((ending_tests k s t).says q)))
          which (inr q) (inl e) = inl (heard_quiet q e)
          which (inr q) (inr d) =
              let begun : 0 < s.clock = omega (arith, d.behind) in
              let whole : run_period k s t ∣ s.clock = rw (at-end begun) (bus.runs running own.timed.known d.invoked) in
              true-false (sym (ends_at d.invoked begun whole) ∙ q)

    pub hears_on : Hears s past → Hears (tick k s i) (i ∷ past)
    hears_on h =
        cycle_case k first (k.task_home t) fair.home bus.cycles s i past may own.timed beats
        (λ low high. hears_within low high h)
        (λ turn one whole. hears_anew turn h)

-- ---- along a history

module _ (k : Kept) (starting : ℕ → Option ℕ) where
  pub hears_along : (t : ℕ) (fair : FairTask k t) (first : ModeOf k (k.task_home t) (first_in starting (k.task_home t))) (bus : FairBus k t)
      → LastIsSent k t → (history : List Input) (s : State) → played k (state_at_start starting) history ≡ ok s
      → Hears k (first_in starting) t s history
  unfolding heard value
  hears_along t fair first bus last history s e =
      (along k starting (λ s past. Sending k starting t fair first bus s past × Hears k (first_in starting) t s past)
      (sending-start k starting t fair first bus, inl refl)
      (λ s i past may h. (
        sending_on k starting t fair first bus s i past may h.0,
        hears_on k (first_in starting) t fair bus last s i past may h.0.own h.0.beats h.1,
      ))
      history s e
      ).1

  -- bus time and age of one module
  pub beats_along : (m : ℕ) → FairModule k m → FairCycle k m → ModeOf k m (first_in starting m) → (history : List Input) (s : State)
      → played k (state_at_start starting) history ≡ ok s → Beats k m s history
  beats_along m fair cycle first history s e =
      (along k starting (λ s past. Timed k (first_in starting) m s past × Beats k m s past)
      (timed-start k starting m first, beats-start k starting m)
      (λ s i past may h. (
        timed-tick k (first_in starting) m fair s i past may h.0,
        beats-tick k (first_in starting) m fair cycle s i past may h.0 h.1,
      ))
      history s e
      ).1

-- ---- at a release of a task of another module

one_less : (a b : ℕ) → 0 < b → b ≤ a → a - 1 - (b - 1) ≡ a - b
one_less a b pos h = omega arith

less_one : (a b : ℕ) → b ≤ a → b - 1 ≤ a - 1
less_one a b h = omega arith

-- ages a and b, b a whole number of times u younger, counted from the tick of the release on
released-age : (u a b : ℕ) → 0 < b → b ≤ a → u ∣ a - b → u ∣ a - 1 → u ∣ b - 1
released-age u a b pos h apart whole = same-multiple u (a - 1) (b - 1) (less_one a b h) (rw (one_less a b pos h) apart) whole

-- where a task of period U is released the bus time is a multiple of U, if U divides P
pub released-clock : (k : Kept) (first : ℕ → ℕ) (m u : ℕ) (s : State) (past : List Input) → Timed k first m s past → Beats k m s past
    → u ∣ k.period → u ∣ k.mode_period (s.mode m) → 0 < s.clock → u ∣ board_since k first m past - 1 → u ∣ s.clock - 1
released-clock k first m u s past timed beats cycles modes begun whole =
    let born : 0 < s.age m = omega (arith, beats.beat) in
    let aged = released-age u (board_since k first m past) (s.age m) born timed.behind (dvd_trans u modes timed.turns) whole in
    released-age u (s.age m) s.clock begun beats.beat (dvd_trans u cycles beats.aligned) aged

-- ---- what a plan and a passed table keep of a connection that is left

module _ (p : Plan) (kept : PlanKept p) (left : InEdition p) {l : Layout} (laid : LaidOut p l) (tr : TableRead) where
  last-sent : (t : ℕ) → is_bus_task p t ≡ true → FairBus (kept_for p tr) t → LastIsSent (kept_for p tr) t
  unfolding kept_of layout_of
  last-sent t bus fair μ own runs =
      sent_is p kept tr t μ (traffic p).period
      ∙ (has_means p kept μ t (traffic p).period).passes
      (record {
        bus = bus;
        runs = runs;
        due = fair.runs μ own runs;
        low = (cycle-kept p kept laid).least;
        high = le_refl (traffic p).period;
        read = kept-at_P p kept left t bus (period_in p μ t) runs;
      })

  module _ (c : Connection) (among : Memᴰ c p.connections) where
    consumer-ends : (μ : ℕ) → (the_mode p μ).home ≡ (the_task p c.consumer).home → of_end p (the_mode p μ) ≡ true
    unfolding of_end ends_in lives_in
    consumer-ends μ own =
        let home = (the_mode p μ).home in
        any-among (ends_in p home) among
        ((by_or (by_eq (the_task p c.producer).home home) (by_eq (the_task p c.consumer).home home)).passes (inr (sym own)))

    -- P divides what the modes of the consumer's module are timed by
    consumer-cycle : p.consumers ≡ true → FairCycle (kept_for p tr) (the_task p c.consumer).home
    unfolding kept_of layout_of
    consumer-cycle e =
        record {
          cycle = (cycle-kept p kept laid).least;
          switches = λ μ h. dvd_trans (traffic p).period laid.divides (end-divides p e μ h.there (consumer-ends μ h.own)).1;
          modes = λ μ h. dvd_trans (traffic p).period laid.divides (end-divides p e μ h.there (consumer-ends μ h.own)).0;
        }

    -- where the producer is thinned, a mode that invokes the consumer is one of its readers
    reader_among : is_thinned p c.producer ≡ true → (ν : ℕ) → 0 < period_in p ν c.consumer
        → Memᴰ (period_in p ν c.consumer) (readers_of p c.producer)
    unfolding is_reader leads_to period_in
    reader_among thin ν invoked =
        let t = c.producer in
        let r = run_in p ν c.consumer invoked in
        let leads = both (eq-eqb t t refl) (eq-eqb c.consumer r.one.task (sym r.task)) in
        let reader = keep_member (is_reader p t) (any-among (leads_to t r.one.task) among leads) r.among in
        rw (readers_some p t thin) (Memᴰ.cast (sym r.period) (member_map (period_of p) reader))

-- a multiple of a reader's period within T behind d
read_at : (us : List ℕ) (T d u x : ℕ) → Memᴰ u us → u ∣ x → d ≤ x → x < d + T → is_read_by us T d ≡ true
unfolding is_read_by is_read
read_at us T d u x among comes low high =
    any-among (is_read T d) among (lt-ltb (up u d) (d + T) (omega (arith, up_least u d x comes low, high)))

-- the producer of a connection that is left is a bus task
left-bus : (p : Plan) → InEdition p → (c : Connection) → Memᴰ c p.connections → p.consumers ≡ true → is_bus_task p c.producer ≡ true
unfolding is_bus_task leaves is_left is_invoked
left-bus p left c among edition =
    let t = c.producer in
    let stays = all_member (left.left edition) among in
    let apart = both_left (not (eqb (task_node p c.consumer) (task_node p t))) _ stays in
    let ends = both_right (not (eqb (task_node p c.consumer) (task_node p t))) _ stays in
    both (both_left (is_invoked p t) _ ends) (any-among (leaves p t) among (both (eq-eqb t t refl) apart))

-- ---- a thinned producer, at a release of its consumer

module _ (p : Plan) (kept : PlanKept p) (left : InEdition p) {l : Layout} (laid : LaidOut p l) (tr : TableRead) (obeys : ObeysTable (layout_of p) tr)
    (starting : ℕ → Option ℕ) (starts : (m : ℕ) → m < length p.modules → ModeOf (kept_for p tr) m (first_in starting m))
    (history : List Input) (s : State) (plays : played (kept_for p tr) (state_at_start starting) history ≡ ok s)
    (c : Connection) (among : Memᴰ c p.connections) (edition : p.consumers ≡ true) where
  abbrev k : Kept
  k = kept_for p tr

  abbrev t : ℕ
  t = c.producer

  abbrev u : ℕ
  u = c.consumer

  abbrev consumer_home : ℕ
  consumer_home = (the_task p u).home

  t_there : t < length p.tasks
  t_there = (all_member kept.connections among).producer

  u_there : u < length p.tasks
  u_there = (all_member kept.connections among).consumer

  bus-task : is_bus_task p t ≡ true
  bus-task = left-bus p left c among edition

  on_bus-here : FairBus k t
  on_bus-here = fair-bus p kept laid tr obeys t t_there bus-task

  timed-here : Timed k (first_in starting) consumer_home s history
  timed-here =
      timed_along k starting consumer_home (fair_module p kept tr consumer_home (fair-home p kept u u_there))
      (starts consumer_home (fair-home p kept u u_there)) history s plays

  beats-here : Beats k consumer_home s history
  beats-here =
      beats_along k starting consumer_home (fair_module p kept tr consumer_home (fair-home p kept u u_there))
      (consumer-cycle p kept left laid tr c among edition) (starts consumer_home (fair-home p kept u u_there)) history s plays

  module _ (thin : is_thinned p t ≡ true) (released : ReleasedIn p starting u history) (d : Dropped k t s) where
    abbrev period : ℕ
    period = period_in p released.mode u

    now : IsNow (home_in p) (period_in p) (first_in starting) consumer_home history released.mode released.since
    unfolding home_in
    now = in_mode_now (home_in p) (period_in p) (first_in starting) consumer_home history released.mode released.since released.in_mode

    running-mode : s.mode consumer_home ≡ released.mode
    unfolding kept_of home_in
    running-mode = timed-here.mode ∙ now.mode

    reader : Memᴰ period (readers_of p t)
    reader = reader_among p kept left laid tr c among thin released.mode released.invoked

    begun-clock : 0 < s.clock
    begun-clock = omega (arith, d.behind)

    whole-age : period ∣ board_since k (first_in starting) consumer_home history - 1
    unfolding kept_of home_in
    whole-age =
        let old : 0 < board_since k (first_in starting) consumer_home history = omega (arith, begun-clock, beats-here.beat, timed-here.behind) in
        let same : board_since k (first_in starting) consumer_home history - 1 ≡ released.tick - released.since = omega (arith, now.ticks, released.newest) in
        rw same released.whole

    whole-mode : period ∣ k.mode_period (s.mode consumer_home)
    unfolding kept_of layout_of
    whole-mode =
        let invoked = subst (λ (μ : ℕ). 0 < period_in p μ u) (sym running-mode) released.invoked in
        subst (λ (μ : ℕ). period_in p μ u ∣ k.mode_period (s.mode consumer_home)) running-mode
        ((fair-task p kept tr u u_there).whole_runs (s.mode consumer_home) timed-here.known invoked)

    whole-clock : period ∣ s.clock - 1
    unfolding kept_of layout_of
    whole-clock =
        released-clock k (first_in starting) consumer_home period s history timed-here beats-here
        (all_member (readers_go p kept left t bus-task).each reader).1 whole-mode begun-clock whole-age

    -- so the message that was dropped is one that the consumer reads
    not_dropped : ⊥
    unfolding kept_of layout_of run_period
    not_dropped =
        let μ = s.mode (the_task p t).home in
        let low : d.deadline ≤ s.clock - 1 = omega (arith, d.behind) in
        let high : s.clock - 1 < d.deadline + period_in p μ t = omega (arith, begun-clock, d.near) in
        let read = read_at (readers_of p t) (period_in p μ t) d.deadline period (s.clock - 1) reader whole-clock low high in
        let sent = (has_means p kept μ t d.deadline).passes
        (record { bus = bus-task; runs = d.invoked; due = d.whole; low = d.low; high = omega (arith, d.behind, beats-here.in_cycle); read = read }) in
        true-false (sym sent ∙ sym (sent_is p kept tr t μ d.deadline) ∙ d.unsent)

  hears_read : is_thinned p t ≡ true → ReleasedIn p starting u history → heard_in k (first_in starting) t history ≡ board k (first_in starting) t history
  unfolding kept_of layout_of
  hears_read thin released =
      which
      (hears_along k starting t (fair-task p kept tr t t_there) (starts (the_task p t).home (fair-home p kept t t_there)) on_bus-here
      (last-sent p kept left laid tr t bus-task on_bus-here) history s plays)
    where
      which : Hears k (first_in starting) t s history → heard_in k (first_in starting) t history ≡ board k (first_in starting) t history
      which (inl e) = e
      which (inr d) = absurd (not_dropped thin released d)

-- ---- of a station that begins

module _ (plan table : List ℕ) (starting : ℕ → Option ℕ) (b : Begun) (begins : begin plan table starting ≡ ok b)
    (p : Plan) (reads : read_in (is_for_consumers table) plan ≡ ok p) (history : List Input) (s : State) (plays : played b.kept b.state history ≡ ok s) where
  abbrev beginning : Beginning plan table starting b
  beginning = facts plan table starting b begins p reads history s plays

  hears_here : (c : Connection) → Memᴰ c beginning.read.connections → beginning.read.consumers ≡ true
      → is_thinned beginning.read c.producer ≡ true → ReleasedIn beginning.read starting c.consumer history
      → heard_value beginning.read (traffic beginning.read) starting c.producer history ≡ board_value beginning.read starting c.producer history
  unfolding kept_of board_value home_in
  hears_here c among edition thin released =
      let left = edition-kept (is_for_consumers table) plan beginning.read beginning.is_read in
      let there = (all_member beginning.kept.connections among).producer in
      let bus = left-bus beginning.read left c among edition in
      sym (heard-is plan table starting b begins p reads history s plays c.producer there bus)
      ∙ hears_read beginning.read beginning.kept left beginning.is_laid beginning.rows beginning.obeys starting
      (first_of plan table starting b begins p reads history s plays) history s (plays_on plan table starting b begins p reads history s plays)
      c among edition thin released

  -- a thinned task, at a release of one of its consumers: what other nodes hear of it is the one board's value
  pub heard-at-reads : (c : Connection) → Memᴰ c p.connections → p.consumers ≡ true → is_thinned p c.producer ≡ true
      → ReleasedIn p starting c.consumer history
      → heard_value p (traffic p) starting c.producer history ≡ board_value p starting c.producer history
  heard-at-reads c =
      subst
      (λ (p : Plan). Memᴰ c p.connections → p.consumers ≡ true → is_thinned p c.producer ≡ true
      → ReleasedIn p starting c.consumer history
      → heard_value p (traffic p) starting c.producer history ≡ board_value p starting c.producer history)
      (same-plan plan table starting b begins p reads history s plays) (hears_here c)

  -- a connection that is left, at a release of its consumer
  pub left-at-reads : (c : Connection) → Memᴰ c p.connections → p.consumers ≡ true → ReleasedIn p starting c.consumer history
      → (n : ℕ) → s.shown n c.producer ≡ board_value p starting c.producer history
  left-at-reads c among edition released n = which (tested (is_thinned p c.producer)) (tested (eqb (task_node p c.producer) n))
    where
      t : ℕ
      t = c.producer

      there : t < length p.tasks
      there = (all_member (readable_kept_in (is_for_consumers table) plan p reads).connections among).producer

      bus : is_bus_task p t ≡ true
      bus = left-bus p (edition-kept (is_for_consumers table) plan p reads) c among edition

      which : (is_thinned p t ≡ true) ⊎ (is_thinned p t ≡ false) → (eqb (task_node p t) n ≡ true) ⊎ (eqb (task_node p t) n ≡ false)
          → s.shown n t ≡ board_value p starting t history
      which (inr whole) _ = transparent_bus plan table starting b begins p reads history s plays n t there bus whole
      which (inl thin) (inl e) =
          subst (λ (n : ℕ). s.shown n t ≡ board_value p starting t history) (eqb-true (task_node p t) n e)
          (transparent_own plan table starting b begins p reads history s plays t there)
      which (inl thin) (inr e) =
          transparent_heard plan table starting b begins p reads history s plays n t there bus (eqb-false (task_node p t) n e)
          ∙ heard-at-reads c among edition thin released

  -- a task that no mode invokes
  pub transparent_idle : (t : ℕ) → t < length p.tasks → any (invokes t) p.invocations ≡ false
      → (n : ℕ) → s.shown n t ≡ board_value p starting t history
  transparent_idle t =
      subst
      (λ (p : Plan). t < length p.tasks → any (invokes t) p.invocations ≡ false → (n : ℕ) → s.shown n t ≡ board_value p starting t history)
      (same-plan plan table starting b begins p reads history s plays) (shows-idle plan table starting b begins p reads history s plays t)

  -- a task with a connection that can't be thinned is right on every node at every tick
  pub transparent_full : (c : Connection) → Memᴰ c p.connections → p.consumers ≡ true → can_be_thinned p c ≡ false
      → (n : ℕ) → Tells p starting c.producer history (s.shown n c.producer)
  unfolding is_thinned needs_all
  transparent_full c among edition all n =
      let t = c.producer in
      let there = (all_member (readable_kept_in (is_for_consumers table) plan p reads).connections among).producer in
      let bus = left-bus p (edition-kept (is_for_consumers table) plan p reads) c among edition in
      let needs = any-among (needs_all p t) among (both (eq-eqb t t refl) (ap not all)) in
      let whole : is_thinned p t ≡ false = ap (λ (b : Bool). b && not (any (needs_all p t) p.connections)) edition ∙ ap not needs in
      subst (Tells p starting t history) (sym (transparent_bus plan table starting b begins p reads history s plays n t there bus whole))
      (value-told plan table starting b begins p reads history s plays t there)

-- ---- in the words of the plan as it is read

-- an edition changes no task, mode or invocation
same-among : (q : Plan) (is : List Invocation) (μ t : ℕ) → period_among (plan_in true q) is μ t ≡ period_among q is μ t
unfolding period_among period_of the_mode
same-among q [] μ t = refl
same-among q (i ∷ is) μ t = rw (same-among q is μ t)

same_runs : (consumers : Bool) (q : Plan) → period_in (plan_in consumers q) ≡ period_in q
unfolding period_in
same_runs true q = fun_ext (λ μ. fun_ext (λ t. same-among q q.invocations μ t))
same_runs false q = refl

same_homes : (consumers : Bool) (q : Plan) → home_in (plan_in consumers q) ≡ home_in q
unfolding home_in the_task
same_homes true q = refl
same_homes false q = refl

same_nodes : (consumers : Bool) (q : Plan) (t : ℕ) → task_node (plan_in consumers q) t ≡ task_node q t
unfolding task_node module_node the_task
same_nodes true q t = refl
same_nodes false q t = refl

same-tasks : (consumers : Bool) (q : Plan) → (plan_in consumers q).tasks ≡ q.tasks
same-tasks true q = refl
same-tasks false q = refl

module _ (consumers : Bool) (q : Plan) (starting : ℕ → Option ℕ) (t : ℕ) (history : List Input) where
  tells_as_read : {v : ℕ} → Tells (plan_in consumers q) starting t history v → Tells q starting t history v
  tells_as_read told = rw (same_homes consumers q, same_runs consumers q) at told

  released_in : ReleasedIn q starting t history → ReleasedIn (plan_in consumers q) starting t history
  released_in released = rw (same_homes consumers q, same_runs consumers q) released

module _ (plan table : List ℕ) (starting : ℕ → Option ℕ) (b : Begun) (begins : begin plan table starting ≡ ok b)
    (q : Plan) (reads : read_plan plan ≡ ok q) (history : List Input) (s : State) (plays : played b.kept b.state history ≡ ok s) where
  reads_as : (consumers : Bool) → is_for_consumers table ≡ consumers → read_in (is_for_consumers table) plan ≡ ok (plan_in consumers q)
  unfolding read_in
  reads_as consumers e = rw (e, reads)

  module _ (c : Connection) (among : Memᴰ c q.connections) (away : task_node q c.producer ≡ task_node q c.consumer → ⊥) where
    abbrev from : ℕ
    from = c.producer

    abbrev to : ℕ
    to = c.consumer

    consumed : consumes q (task_node q to) from ≡ true
    unfolding consumes brings
    consumed =
        both (any-among (brings q (task_node q to) from) among (both (eq-eqb from from refl) (eq-eqb (task_node q to) (task_node q to) refl)))
        (ap not (ne_eqb (task_node q from) (task_node q to) away))

    is-left : is_invoked q from ≡ true → is_invoked q to ≡ true → is_left q c ≡ true
    unfolding is_left
    is-left runs reads = both (ap not (ne_eqb (task_node q to) (task_node q from) (λ e. away (sym e)))) (both runs reads)

    never_released : is_invoked q to ≡ false → ReleasedIn q starting to history → ⊥
    unfolding is_invoked period_in
    never_released e released = absurd (omega (arith, released.invoked, uninvoked q q.invocations released.mode to e))

    module _ (edition : is_for_consumers table ≡ true) (released : ReleasedIn q starting to history) where
      abbrev p : Plan
      p = plan_in true q

      is_board : s.shown (task_node q to) from ≡ board_value p starting from history
      unfolding is_invoked
      is_board = which (tested (is_invoked q from)) (tested (is_invoked q to))
        where
          there : from < length p.tasks
          there = (all_member (readable_kept plan q reads).connections among).producer

          which : (is_invoked q from ≡ true) ⊎ (is_invoked q from ≡ false) → (is_invoked q to ≡ true) ⊎ (is_invoked q to ≡ false)
              → s.shown (task_node q to) from ≡ board_value p starting from history
          which (inr e) _ =
              transparent_idle plan table starting b begins p (reads_as true edition) history s plays from there e (task_node q to)
          which (inl e) (inr f) = absurd (never_released f released)
          which (inl e) (inl f) =
              left-at-reads plan table starting b begins p (reads_as true edition) history s plays c (keep_member (is_left q) (is-left e f) among) refl
              (released_in true q starting to history released) (task_node q to)

      told_in_edition : Tells q starting from history (s.shown (task_node q to) from)
      told_in_edition =
          tells_as_read true q starting from history
          (subst (Tells p starting from history) (sym is_board)
          (value-told plan table starting b begins p (reads_as true edition) history s plays from
          (all_member (readable_kept plan q reads).connections among).producer))

    -- wherever the consumer is released its node shows what the history tells of the producer, in either edition
    pub shown-at-reads : ReleasedIn q starting to history → Tells q starting from history (s.shown (task_node q to) from)
    shown-at-reads released = which (is_for_consumers table) refl
      where
        which : (consumers : Bool) → is_for_consumers table ≡ consumers → Tells q starting from history (s.shown (task_node q to) from)
        which true e = told_in_edition e released
        which false e =
            shown-told plan table starting b begins q (reads_as false e) history s plays (task_node q to) from consumed
            (basic-whole q from (read_plain plan q reads))

  -- a task's own node does so at every tick
  own-at-all : (t : ℕ) → t < length q.tasks → Tells q starting t history (s.shown (task_node q t) t)
  own-at-all t w =
      let edition = is_for_consumers table in
      let p = plan_in edition q in
      let in_plan : t < length p.tasks = rw (same-tasks edition q) w in
      let shown = shown-told-own plan table starting b begins p (reads_as edition refl) history s plays t in_plan in
      tells_as_read edition q starting t history (subst (λ (n : ℕ). Tells p starting t history (s.shown n t)) (same_nodes edition q t) shown)

  pub shows-read : ShowsRead q starting history s.shown
  shows-read = record { read = shown-at-reads; own = own-at-all }
