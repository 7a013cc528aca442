-- 41 to 44 in plain words are exact. Behind an accepted history a tick is accepted exactly when it is given what it may be given, so a
-- history is accepted exactly when each of its ticks is; and then what is shown is what is told.
use mathlib.Core.Path.{◌≡◌, refl, sym, ap, ◌∙◌, subst}
use mathlib.Core.Bool.{Bool, true, false}
use mathlib.Core.List.{List, [], ◌∷◌}
use mathlib.Core.Logic.{◌⊎◌, inl, inr, ◌↔◌}
use mathlib.Core.Option.{Option}
use native.Mathlib.Nat.{dvd_trans, eq-zero-or-pos}
use native.Mathlib.Omega.{arith}
use lib.ListN.{length}
use Prim.Native.Nat.{ℕ, ◌+◌, ◌-◌, ◌≤◌, ◌<◌, ◌∣◌}
use Rattle.laws.specs.Res.{ok}
use Rattle.laws.proofs.Res.{bind_case}
use Rattle.laws.proofs.Runs.{within_run, run-most, same-run, same-multiple, multiple-same, run-behind, run-began}
use Rattle.rules.specs.Plan.{Plan}
use Rattle.rules.specs.Frames.{layout_of}
use Rattle.rules.specs.Checker.{TableRead, is_for_consumers}
use Rattle.rules.specs.Playing.{Input}
use Rattle.rules.specs.Station.{Kept, State, Ticked, Begun, kept_of, run_period, task_age, run_age, tick, started, step, begin}
use Rattle.rules.specs.OneBoard.{mode_now, period_now}
use Rattle.rules.specs.Obeys.{IsRunning, IsAwaited, MayChange, MayTick}
use Rattle.rules.specs.History.{played, home_in, first_in}
use Rattle.rules.specs.Told.{InMode, ShowsTold}
use Rattle.rules.specs.Allowed.{UnderWay, Silent, Waits, MayGive, MayTurn, MayTell, Allowed, at_start, one_more}
use Rattle.rules.proofs.PlanKept.{PlanKept}
use Rattle.rules.proofs.StationExact.{step_accepted, step-passes}
use Rattle.rules.proofs.TransparentTick.{run-age}
use Rattle.rules.proofs.TransparentModes.{FairModule, board_since, Timed}
use Rattle.rules.proofs.TransparentOwn.{FairTask, period-is, whole-turns}
use Rattle.rules.proofs.TransparentPlan.{kept_for, fair_module, fair-task}
use Rattle.rules.proofs.Transparent.{Beginning, facts, same-plan, timed}
use Rattle.rules.proofs.TransparentTold.{in_mode_now, since-below, mode-told, Words, words, shows-told}
use Rattle.rules.specs.Traffic.{read_in}

-- ---- the station's count of a mode's age, and the history's

module _ (k : Kept) (first : ℕ → ℕ) (m : ℕ) (fair : FairModule k m) (s : State) (past : List Input) (h : Timed k first m s past) where
  abbrev left : ℕ
  left = mode_now k.task_home k.run first m past

  abbrev old : ℕ
  old = board_since k first m past

  switch-turns : k.mode_switch (s.mode m) ∣ old - s.age m
  switch-turns = dvd_trans (k.mode_switch (s.mode m)) (fair.whole_switches (s.mode m) h.known) h.turns

  instant-told : k.mode_switch (s.mode m) ∣ s.age m → k.mode_switch left ∣ length past - (length past - old)
  instant-told d =
      let e : length past - (length past - old) ≡ old = omega (arith, since-below k.task_home k.run first m past) in
      rw (e, ← h.mode) (multiple-same (k.mode_switch (s.mode m)) old (s.age m) h.behind switch-turns d)

  told-instant : (μ since : ℕ) → InMode first m past μ since (length past) → k.mode_switch μ ∣ length past - since
      → k.mode_switch (s.mode m) ∣ s.age m
  told-instant μ since q d =
      let now = in_mode_now k.task_home k.run first m past μ since q in
      let e : k.mode_switch (s.mode m) ∣ old = rw (h.mode, now.mode, now.ticks) d in
      same-multiple (k.mode_switch (s.mode m)) old (s.age m) h.behind switch-turns e

-- ---- the run under way

module _ (k : Kept) (first : ℕ → ℕ) (t : ℕ) (fair : FairTask k t) (s : State) (past : List Input) (h : Words k first t s past) where
  abbrev T : ℕ
  T = run_period k s t

  abbrev since_home : ℕ
  since_home = board_since k first (k.task_home t) past

  abbrev Runs : ℕ → ℕ → Type 0
  Runs = UnderWay k.task_home k.run first t past

  -- the run's age is the same by the history's count
  age-told : 0 < run_period k s t → 0 < task_age k s t → run_age k s t ≡ within_run since_home T
  unfolding task_age
  age-told p a =
      run-age k s t
      ∙ sym (same-run T since_home (task_age k s t) a h.own.timed.behind (whole-turns k first t fair s past h.own.timed p))

  run-told : IsRunning k s t → Runs (length past - run_age k s t) (run_period k s t)
  unfolding task_age period_now
  run-told r =
      let born : 0 < since_home = omega (arith, h.own.timed.behind, r.released) in
      let early : since_home ≤ length past = since-below k.task_home k.run first (k.task_home t) past in
      let age : run_age k s t ≡ within_run since_home T = age-told r.invoked r.released in
      let began = run-began T since_home born in
      let most : within_run since_home T ≤ T = run-most T since_home r.invoked in
      let whole : length past - run_age k s t - (length past - since_home) ≡ since_home - within_run since_home T = omega (arith, began.0) in
      record {
        mode = mode_now k.task_home k.run first (k.task_home t) past;
        since = length past - since_home;
        in_mode = mode-told k.task_home k.run first (k.task_home t) past;
        period = period-is k first t fair s past h.own.timed;
        began = omega (arith, began.0);
        whole = rw whole began.1;
        released = omega arith;
        lasts = omega arith;
      }

  -- a run that is told is the station's
  record Here (release : ℕ) : Type 0 where
    invoked : 0 < run_period k s t
    released : 0 < task_age k s t
    age : release + run_age k s t ≡ length past

  told-run : (release P : ℕ) → Runs release P → Here release
  unfolding task_age period_now
  told-run release P u =
      let now = in_mode_now k.task_home k.run first (k.task_home t) past u.mode u.since u.in_mode in
      let period : run_period k s t ≡ P =
      sym (period-is k first t fair s past h.own.timed) ∙ ap (λ (μ : ℕ). k.run μ t) now.mode ∙ u.period in
      let behind : since_home ≡ release - u.since + (length past - release) = omega (arith, now.ticks, u.began, u.released) in
      let born : 0 < task_age k s t = some-age (omega (arith, u.released)) (eq-zero-or-pos (task_age k s t)) in
      let invoked : 0 < run_period k s t = omega (arith, u.released, u.lasts) in
      let within : within_run since_home P ≡ length past - release =
      rw behind (run-behind P (release - u.since) (length past - release) (omega (arith, u.released)) (omega (arith, u.lasts)) u.whole) in
      let age : run_age k s t ≡ length past - release =
      age-told invoked born ∙ ap (λ (x : ℕ). within_run since_home x) period ∙ within in
      record { invoked = invoked; released = born; age = omega (arith, u.released) }
    where
      some-age : 0 < since_home → (task_age k s t ≡ 0) ⊎ (0 < task_age k s t) → 0 < task_age k s t
      some-age l (inl z) = absurd (omega (arith, h.own.timed.unborn z))
      some-age l (inr p) = p

  -- it has had no result, by the station's count, where the history has none
  first-told : (release : ℕ) → Here release → Silent t past release → s.given t ≡ false
  first-told release u q = go (s.given t) refl
    where
      go : (b : Bool) → s.given t ≡ b → b ≡ false
      go false e = refl
      go true e =
          let one = h.once u.invoked u.released e in
          absurd (q one.tick (s.out t) one.input (omega (arith, one.late, u.age)) one.given one.result)

-- ---- a tick

module _ (p : Plan) (kept : PlanKept p) (tr : TableRead) (starting : ℕ → Option ℕ) (past : List Input) (s : State)
    (modes : (m : ℕ) → m < length p.modules → Timed (kept_for p tr) (first_in starting) m s past)
    (runs : (t : ℕ) → t < length p.tasks → Words (kept_for p tr) (first_in starting) t s past) where
  abbrev k : Kept
  k = kept_for p tr

  -- the run of the task waits, by the station's count
  record Waiting (t release : ℕ) : Type 0 where
    running : IsRunning (kept_for p tr) s t
    first : s.given t ≡ false
    age : release + run_age (kept_for p tr) s t ≡ length past

  waits-told : (t : ℕ) → IsRunning (kept_for p tr) s t → s.given t ≡ false → Waits p starting past t (length past - run_age (kept_for p tr) s t)
  unfolding kept_of layout_of home_in
  waits-told t r g =
      record {
        in_plan = r.in_plan;
        period = run_period k s t;
        run = run-told k (first_in starting) t (fair-task p kept tr t r.in_plan) s past (runs t r.in_plan) r;
        silent = (runs t r.in_plan).silent r.invoked r.released g;
      }

  told-waits : (t release : ℕ) → Waits p starting past t release → Waiting t release
  unfolding kept_of layout_of home_in
  told-waits t release w =
      let fair = fair-task p kept tr t w.in_plan in
      let u = told-run k (first_in starting) t fair s past (runs t w.in_plan) release w.period w.run in
      record {
        running = record { in_plan = w.in_plan; invoked = u.invoked; released = u.released };
        first = first-told k (first_in starting) t fair s past (runs t w.in_plan) release u w.silent;
        age = u.age;
      }

  age-within : (t : ℕ) → IsRunning (kept_for p tr) s t → run_age (kept_for p tr) s t ≤ length past
  unfolding kept_of layout_of home_in
  age-within t r =
      let u = run-told k (first_in starting) t (fair-task p kept tr t r.in_plan) s past (runs t r.in_plan) r in
      omega (arith, (told-run k (first_in starting) t (fair-task p kept tr t r.in_plan) s past (runs t r.in_plan) _ _ u).age)

  gives-told : (t : ℕ) → IsAwaited (kept_for p tr) s t → MayGive p starting past t
  unfolding kept_of layout_of
  gives-told t a =
      record {
        release = length past - run_age k s t;
        waits = waits-told t a.running a.first;
        in_time = omega (arith, a.early);
      }

  told-gives : (t : ℕ) → MayGive p starting past t → IsAwaited (kept_for p tr) s t
  unfolding kept_of layout_of
  told-gives t g =
      let w = told-waits t g.release g.waits in
      record { running = w.running; first = w.first; early = omega (arith, w.age, g.in_time) }

  turns-told : (m μ : ℕ) → MayChange (kept_for p tr) s m μ → MayTurn p starting past m μ
  unfolding kept_of layout_of home_in
  turns-told m μ c =
      record {
        in_plan = c.in_plan;
        is_mode = c.is_mode;
        own = c.own;
        left = mode_now (home_in p) k.run (first_in starting) m past;
        since = length past - board_since k (first_in starting) m past;
        in_mode = mode-told k.task_home k.run (first_in starting) m past;
        instant = instant-told k (first_in starting) m (fair_module p kept tr m c.in_plan) s past (modes m c.in_plan) c.instant;
      }

  told-turns : (m μ : ℕ) → MayTurn p starting past m μ → MayChange (kept_for p tr) s m μ
  unfolding kept_of layout_of
  told-turns m μ c =
      record {
        in_plan = c.in_plan;
        is_mode = c.is_mode;
        own = c.own;
        instant =
            told-instant k (first_in starting) m (fair_module p kept tr m c.in_plan) s past (modes m c.in_plan) c.left c.since
            c.in_mode c.instant;
      }

  may-told : (i : Input) → MayTick (kept_for p tr) s i → MayTell p starting past i
  unfolding kept_of layout_of
  may-told i h =
      record {
        results = λ t v w e. gives-told t (h.awaited t v w e);
        fits = h.fits;
        due = λ t release w e.
            let u = told-waits t release w in
            h.in_time t (fair-task p kept tr t w.in_plan).place u.running (omega (arith, u.age)) u.first;
        changes = λ m μ w e. turns-told m μ (h.allowed m μ w e);
      }

  told-may : (i : Input) → MayTell p starting past i → MayTick (kept_for p tr) s i
  unfolding kept_of layout_of
  told-may i h =
      record {
        awaited = λ t v w e. told-gives t (h.results t v w e);
        fits = h.fits;
        in_time = λ t w r a g. h.due t (length past - run_age k s t) (waits-told t r g) (omega (arith, age-within t r));
        allowed = λ m μ w e. told-turns m μ (h.changes m μ w e);
      }

-- ---- of every beginning

module _ (plan table : List ℕ) (starting : ℕ → Option ℕ) (b : Begun) (begins : begin plan table starting ≡ ok b)
    (p : Plan) (reads : read_in (is_for_consumers table) plan ≡ ok p) where
  module _ (past : List Input) (s : State) (plays : played b.kept b.state past ≡ ok s) (i : Input) where
    abbrev told : Beginning plan table starting b
    told = facts plan table starting b begins p reads past s plays

    read_exact : MayTick (kept_for told.read told.rows) s i ↔ MayTell told.read starting past i
    read_exact = (
      may-told told.read told.kept told.rows starting past s (timed plan table starting b begins p reads past s plays)
          (words plan table starting b begins p reads past s plays) i,
      told-may told.read told.kept told.rows starting past s (timed plan table starting b begins p reads past s plays)
          (words plan table starting b begins p reads past s plays) i,
    )

    may_exact : MayTick b.kept s i ↔ MayTell p starting past i
    may_exact =
        subst (λ (p : Plan). MayTick b.kept s i ↔ MayTell p starting past i) (same-plan plan table starting b begins p reads past s plays)
        (subst (λ (b : Begun). MayTick b.kept s i ↔ MayTell told.read starting past i) (sym told.is) read_exact)

    -- behind an accepted history a tick is accepted exactly when it is given what it may be given
    pub tick-told : ((a : Ticked) × (step b.kept s i ≡ ok a)) ↔ MayTell p starting past i
    tick-told = (
      λ h. may_exact.0 (step_accepted b.kept s i h.0 h.1).may,
      λ h. (record { row = started b.kept s; state = tick b.kept s i }, step-passes b.kept s i (may_exact.1 h)),
    )

  played-allowed : (history : List Input) (s : State) → played b.kept b.state history ≡ ok s → Allowed p starting history
  unfolding played
  played-allowed [] s e = at_start
  played-allowed (i ∷ past) s e =
      bind_case (played b.kept b.state past) _ e λ before q e₁.
      bind_case (step b.kept before i) _ e₁ λ a f e₂.
      one_more (played-allowed past before q) ((tick-told past before q i).0 (a, f))

  allowed-played : {history : List Input} → Allowed p starting history → (s : State) × (played b.kept b.state history ≡ ok s)
  unfolding played
  allowed-played at_start = (b.state, refl)
  allowed-played (one_more {i} {past} a m) =
      let q = allowed-played a in
      let f = (tick-told past q.0 q.1 i).1 m in
      (f.0.state, rw (q.1, f.1))

  -- a history is accepted exactly when each of its ticks is given what it may be given
  pub history-told : (history : List Input) → ((s : State) × (played b.kept b.state history ≡ ok s)) ↔ Allowed p starting history
  history-told history = (λ h. played-allowed history h.0 h.1, λ a. allowed-played a)

  -- Demand 3 of the history alone, in the basic edition: where each result comes in its time and modes change at their instants, the station goes through
  -- it, and shows what is told.
  pub allowed-shown : p.consumers ≡ false → (history : List Input) → Allowed p starting history
      → (s : State) × (played b.kept b.state history ≡ ok s) × ShowsTold p starting history s.shown
  allowed-shown basic history a =
      let q = allowed-played a in
      (q.0, q.1, shows-told plan table starting b begins p reads history q.0 q.1 basic)
