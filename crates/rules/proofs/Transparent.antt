-- Demand 3. For every plan, table and starting modes with which a station begins, and every history of ticks that are all accepted:
-- on every node that consumes a task of another node, and on each task's own node, the value shown is the one board's.
use mathlib.Core.Path.{◌≡◌, refl, sym, ap, ◌∙◌, subst}
use mathlib.Core.Bool.{Bool, true, false, not, ◌&&◌}
use mathlib.Core.List.{List, [], ◌∷◌}
use mathlib.Core.Logic.{◌⊎◌, inl, inr}
use mathlib.Core.Option.{Option, none, some, get_or}
use native.Mathlib.Omega.{arith}
use borrow.Author.Tests.{ltb-true, eqb-true, eqb-false, eq-eqb, ne_eqb, lt-ltb, not-true}
use lib.Dec.{eqb, ltb}
use lib.ListN.{length}
use Prim.Native.Nat.{ℕ, ◌<◌}
use Rattle.laws.specs.Res.{ok, at}
use Rattle.laws.specs.Lists.{any, first_bad, up_to}
use Rattle.laws.proofs.Lists.{true-false, both, both_left, both_right, neither_left, neither_right, tested}
use Rattle.laws.proofs.Loops.{first_bad-up_to-passes}
use Rattle.laws.proofs.Members.{all_member, all_get_d, any_member, any-among}
use Rattle.laws.proofs.Res.{ok_injective, bind_case, then_case, at_ok}
use Rattle.rules.specs.Plan.{Plan, Invocation, Connection, no_task, the_task}
use Rattle.rules.specs.Traffic.{task_node, invokes, leaves, is_bus_task, traffic, has, read_in}
use Rattle.rules.specs.Frames.{Layout, layout_of}
use Rattle.rules.specs.Checker.{TableRead, Passed, check_files, table_of, is_for_consumers}
use Rattle.rules.specs.Playing.{module_places, Input, is_run, period_among, period_in}
use Rattle.rules.specs.Station.{Kept, State, Begun, kept_of, state_at_start, home_node, run_period, ends_now, is_mode_of}
use Rattle.rules.specs.Station.{holds_mode_of, starts_well, step, tick, begin}
use Rattle.rules.specs.OneBoard.{mode_now, value}
use Rattle.rules.specs.Obeys.{MayTick, ObeysTable, MayPass}
use Rattle.rules.specs.History.{played, home_in, first_in, board_value, brings, consumes}
use Rattle.rules.specs.Heard.{bus_time, is_heard, heard, heard_value}
use Rattle.rules.proofs.CheckerExact.{passed_says, passed_passes}
use Rattle.rules.proofs.PlanKept.{PlanKept}
use Rattle.rules.proofs.LaidOut.{LaidOut, laid_out}
use Rattle.rules.proofs.StationExact.{step_accepted}
use Rattle.rules.proofs.TransparentTick.{ending_tests, shown-still, value-still}
use Rattle.rules.proofs.TransparentModes.{ModeOf, FairModule, Timed, timed-tick, timed-start, Beats, beats-tick, beats-start}
use Rattle.rules.proofs.TransparentOwn.{FairTask, board, Own, ends_same, own_on, own-start}
use Rattle.rules.proofs.TransparentBus.{FairBus, EveryRunIsSent, sent_in, heard_in, Carried, carried_on, carried-start, Landed, landed_on, landed-start, heard_on}
use Rattle.rules.proofs.TransparentPlan.{kept_for, fair_module, fair-task, fair-bus, sent_is, every_run}
use Rattle.rules.specs.Readers.{is_thinned}
use Rattle.rules.proofs.Editions.{readable_kept_in}

-- ---- what a beginning tells

pub record Beginning (plan table : List ℕ) (starting : ℕ → Option ℕ) (b : Begun) : Type 0 where
  pub read : Plan
  pub is_read : read_in (is_for_consumers table) plan ≡ ok read
  pub kept : PlanKept read
  pub laid : Layout
  pub is_laid : LaidOut read laid
  pub rows : TableRead
  pub obeys : ObeysTable (layout_of read) rows
  pub is : b ≡ record { kept = kept_for read rows; state = state_at_start starting }
  pub starts : (m : ℕ) → m < module_places → starts_well (kept_for read rows) starting m ≡ true

-- the checker's answer, with the plan's layout in its place
passed_is : (plan table : List ℕ) (c : Passed) → check_files plan table ≡ ok c → (h : MayPass plan table)
    → c ≡ record { plan = h.read; traffic = traffic h.read; layout = layout_of h.read; table = table_of h.rows }
passed_is plan table c e h =
    let with : Layout → Passed = λ l. record { plan = h.read; traffic = traffic h.read; layout = l; table = table_of h.rows } in
    sym (ok_injective (sym (passed_passes plan table h) ∙ e)) ∙ ap with (sym (laid_out h.read h.laid h.is_laid).is)

pub begun : (plan table : List ℕ) (starting : ℕ → Option ℕ) (b : Begun) → begin plan table starting ≡ ok b → Beginning plan table starting b
unfolding begin
begun plan table starting b e =
    bind_case (check_files plan table) _ e λ c is_passed e₁.
    then_case (at 40 0 (first_bad (starts_well (kept_of c) starting) (up_to module_places))) _ e₁ λ _ a₄₀ e₂.
    let h = passed_says plan table c is_passed in
    let laid = laid_out h.read h.laid h.is_laid in
    let same = passed_is plan table c is_passed h in
    let starts : (m : ℕ) → m < module_places → starts_well (kept_of c) starting m ≡ true =
    λ m w. first_bad-up_to-passes (starts_well (kept_of c) starting) module_places m (at_ok 40 0 (first_bad (starts_well (kept_of c) starting) (up_to module_places)) a₄₀) w in
    record {
      read = h.read;
      is_read = h.is_read;
      kept = readable_kept_in (is_for_consumers table) plan h.read h.is_read;
      laid = h.laid;
      is_laid = laid;
      rows = table_of h.rows;
      obeys = subst (λ (l : Layout). ObeysTable l (table_of h.rows)) (sym laid.is) h.obeys;
      is = sym (ok_injective e₂) ∙ ap (λ (c : Passed). record { kept = kept_of c; state = state_at_start starting }) same;
      starts = subst (λ (c : Passed). (m : ℕ) → m < module_places → starts_well (kept_of c) starting m ≡ true) same starts;
    }

-- a module's starting place holds a mode of its own
pub first-mode : (k : Kept) (starting : ℕ → Option ℕ) (m : ℕ) → m < k.modules → starts_well k starting m ≡ true
    → ModeOf k m (first_in starting m)
unfolding starts_well first_in is_mode_of
first-mode k starting m w = go (starting m)
  where
    go : (o : Option ℕ) → holds_mode_of k m o ≡ true → ModeOf k m (get_or o 0)
    go none e = true-false (sym (lt-ltb m k.modules w) ∙ not-true (ltb m k.modules) e)
    go (some μ) e =
        let rest = both_right (ltb m k.modules) (ltb μ k.modes && eqb (k.mode_home μ) m) e in
        record {
          there = ltb-true μ k.modes (both_left (ltb μ k.modes) (eqb (k.mode_home μ) m) rest);
          own = eqb-true (k.mode_home μ) m (both_right (ltb μ k.modes) (eqb (k.mode_home μ) m) rest);
        }

-- ---- along a history

module _ (k : Kept) (starting : ℕ → Option ℕ) where
  -- what the beginning has, and each accepted tick keeps, holds behind every accepted history
  pub along : (Holds : State → List Input → Type 0) → Holds (state_at_start starting) []
      → ((s : State) (i : Input) (past : List Input) → MayTick k s i → Holds s past → Holds (tick k s i) (i ∷ past))
      → (history : List Input) (s : State) → played k (state_at_start starting) history ≡ ok s → Holds s history
  unfolding played
  along Holds start on [] s e = subst (λ (s : State). Holds s []) (ok_injective e) start
  along Holds start on (i ∷ past) s e =
      bind_case (played k (state_at_start starting) past) _ e λ before p e₁.
      bind_case (step k before i) _ e₁ λ a q e₂.
      let accepted = step_accepted k before i a q in
      subst (λ (s : State). Holds s (i ∷ past)) (sym accepted.is ∙ ok_injective e₂)
      (on before i past accepted.may (along Holds start on past before p))

  -- of one module, with tasks or without
  pub timed_along : (m : ℕ) → FairModule k m → ModeOf k m (first_in starting m) → (history : List Input) (s : State)
      → played k (state_at_start starting) history ≡ ok s → Timed k (first_in starting) m s history
  timed_along m fair first =
      along (Timed k (first_in starting) m) (timed-start k starting m first)
      (λ s i past may h. timed-tick k (first_in starting) m fair s i past may h)

  module _ (t : ℕ) (fair : FairTask k t) (first : ModeOf k (k.task_home t) (first_in starting (k.task_home t))) where
    pub own_along : (history : List Input) (s : State) → played k (state_at_start starting) history ≡ ok s → Own k (first_in starting) t s history
    own_along =
        along (Own k (first_in starting) t) (own-start k starting t first)
        (λ s i past may h. own_on k (first_in starting) t fair s i past may h)

    -- a bus task, its module's bus time, and what the bus carries of it
    pub record Sending (bus : FairBus k t) (s : State) (past : List Input) : Type 0 where
      pub own : Own k (first_in starting) t s past
      pub beats : Beats k (k.task_home t) s past
      pub carried : Carried k t bus.control s

    pub sending-start : (bus : FairBus k t) → Sending bus (state_at_start starting) []
    sending-start bus =
        record {
          own = own-start k starting t first;
          beats = beats-start k starting (k.task_home t);
          carried = carried-start k starting t bus.control;
        }

    pub sending_on : (bus : FairBus k t) (s : State) (i : Input) (past : List Input) → MayTick k s i → Sending bus s past
        → Sending bus (tick k s i) (i ∷ past)
    sending_on bus s i past may h =
        record {
          own = own_on k (first_in starting) t fair s i past may h.own;
          beats =
              beats-tick k (first_in starting) (k.task_home t) fair.home bus.cycles s i past may h.own.timed h.beats;
          carried = carried_on k (first_in starting) t fair bus s i past may h.own h.beats h.carried;
        }

    -- another node shows what it hears of
    pub landed_along : (bus : FairBus k t) (n : ℕ) → (home_node k t ≡ n → ⊥) → (history : List Input) (s : State)
        → played k (state_at_start starting) history ≡ ok s → s.shown n t ≡ heard_in k (first_in starting) t history
    landed_along bus n away history s e =
        (along (λ s past. Sending bus s past × Landed k (first_in starting) t n bus.control s past)
        (sending-start bus, landed-start k starting t n bus.control)
        (λ s i past may h. (
          sending_on bus s i past may h.0,
          landed_on k (first_in starting) t fair bus s i past may h.0.own h.0.beats h.0.carried n away h.1,
        ))
        history s e
        ).1.shows

    -- which is the one board's value, where every run has its message
    pub heard_along : (bus : FairBus k t) → EveryRunIsSent k t → (history : List Input) (s : State)
        → played k (state_at_start starting) history ≡ ok s → heard_in k (first_in starting) t history ≡ board k (first_in starting) t history
    unfolding heard value
    heard_along bus every history s e =
        (along (λ s past. Sending bus s past × (heard_in k (first_in starting) t past ≡ board k (first_in starting) t past))
        (sending-start bus, refl)
        (λ s i past may h. (
          sending_on bus s i past may h.0,
          heard_on k (first_in starting) t fair bus every s i past h.0.own h.0.beats h.1,
        ))
        history s e
        ).1

    module _ (n : ℕ) where
      -- a task that no mode invokes is shown as zero, and the board has zero
      pub record Idle (s : State) (past : List Input) : Type 0 where
        pub own : Own k (first_in starting) t s past
        pub shows : s.shown n t ≡ board k (first_in starting) t past

      idle_on : ((μ : ℕ) → k.run μ t ≡ 0) → (s : State) (i : Input) (past : List Input) → MayTick k s i → Idle s past → Idle (tick k s i) (i ∷ past)
      unfolding run_period
      idle_on none_runs s i past may h =
          let quiet : ends_now k s t ≡ false = never (tested (ends_now k s t)) in
          record {
            own = own_on k (first_in starting) t fair s i past may h.own;
            shows =
                shown-still k s i t n quiet ∙ h.shows
                ∙ sym (value-still k.task_home k.run (first_in starting) i past t (ends_same k (first_in starting) t fair s past h.own.timed ∙ quiet));
          }
        where
          idle : run_period k s t ≡ 0
          idle = none_runs (s.mode (k.task_home t))

          never : (ends_now k s t ≡ true) ⊎ (ends_now k s t ≡ false) → ends_now k s t ≡ false
          never (inl e) = absurd (omega (arith, ((ending_tests k s t).says e).invoked, idle))
          never (inr e) = e

      pub idle_along : ((μ : ℕ) → k.run μ t ≡ 0) → (history : List Input) (s : State)
          → played k (state_at_start starting) history ≡ ok s → s.shown n t ≡ board k (first_in starting) t history
      unfolding state_at_start value
      idle_along none_runs history s e =
          (along Idle (record { own = own-start k starting t first; shows = refl }) (idle_on none_runs) history s e).shows

-- ---- what is heard of hangs on the messages alone

heard-same : (home : ℕ → ℕ) (run : ℕ → ℕ → ℕ) (first : ℕ → ℕ) (period : ℕ) (sent sent' : ℕ → ℕ → ℕ → Bool) (t : ℕ)
    → ((μ d : ℕ) → sent μ t d ≡ sent' μ t d) → (history : List Input)
    → heard home run first period sent t history ≡ heard home run first period sent' t history
unfolding heard is_heard
heard-same home run first period sent sent' t same [] = refl
heard-same home run first period sent sent' t same (i ∷ past) =
    rw (same (mode_now home run first (home t) past) (bus_time period past), heard-same home run first period sent sent' t same past)

-- ---- who consumes

module _ (p : Plan) (n t : ℕ) (h : consumes p n t ≡ true) where
  pub consumed_away : task_node p t ≡ n → ⊥
  unfolding consumes
  consumed_away =
      eqb-false (task_node p t) n (not-true (eqb (task_node p t) n) (both_right (any (brings p n t) p.connections) (not (eqb (task_node p t) n)) h))

  consumer : (c : Connection) → brings p n t c ≡ true → (c.producer ≡ t) × (task_node p c.consumer ≡ n)
  unfolding brings
  consumer c e = (
    eqb-true c.producer t (both_left (eqb c.producer t) (eqb (task_node p c.consumer) n) e),
    eqb-true (task_node p c.consumer) n (both_right (eqb c.producer t) (eqb (task_node p c.consumer) n) e),
  )

  -- the node is that of some task
  pub consumed_on : (u : ℕ) × (task_node p u ≡ n)
  unfolding consumes
  consumed_on =
      let f = any_member (brings p n t) p.connections (both_left (any (brings p n t) p.connections) (not (eqb (task_node p t) n)) h) in
      (f.one.consumer, (consumer f.one f.passes).1)

  pub consumed-there : PlanKept p → t < length p.tasks
  unfolding consumes
  consumed-there kept =
      let f = any_member (brings p n t) p.connections (both_left (any (brings p n t) p.connections) (not (eqb (task_node p t) n)) h) in
      rw (← (consumer f.one f.passes).0) (all_member kept.connections f.among).producer

  pub consumed-leaves : any (leaves p t) p.connections ≡ true
  unfolding consumes leaves
  consumed-leaves =
      let f = any_member (brings p n t) p.connections (both_left (any (brings p n t) p.connections) (not (eqb (task_node p t) n)) h) in
      let c = consumer f.one f.passes in
      let apart : task_node p f.one.consumer ≡ task_node p t → ⊥ = λ e. consumed_away (sym e ∙ c.1) in
      any-among (leaves p t) f.among (rw (eq-eqb f.one.producer t c.0, ne_eqb (task_node p f.one.consumer) (task_node p t) apart))

-- a task without an invocation runs in no mode
pub uninvoked : (p : Plan) (is : List Invocation) (μ t : ℕ) → any (invokes t) is ≡ false → period_among p is μ t ≡ 0
unfolding period_among is_run invokes
uninvoked p [] μ t e = refl
uninvoked p (i ∷ is) μ t e =
    let here : eqb i.task t ≡ false = neither_left (eqb i.task t) (any (invokes t) is) e in
    rw (here, neither (eqb i.mode μ)) (uninvoked p is μ t (neither_right (eqb i.task t) (any (invokes t) is) e))
  where
    neither : (b : Bool) → (b && false) ≡ false
    neither true = refl
    neither false = refl

pub is-bus : (p : Plan) (t : ℕ) → any (invokes t) p.invocations ≡ true → any (leaves p t) p.connections ≡ true → is_bus_task p t ≡ true
unfolding is_bus_task
is-bus p t a b = both a b

pub fair-home : (p : Plan) → PlanKept p → (t : ℕ) → t < length p.tasks → (the_task p t).home < length p.modules
unfolding the_task
fair-home p kept t w = (all_get_d no_task kept.tasks t w).home

-- ---- demand 3

module _ (plan table : List ℕ) (starting : ℕ → Option ℕ) (b : Begun) (begins : begin plan table starting ≡ ok b)
    (p : Plan) (reads : read_in (is_for_consumers table) plan ≡ ok p) (history : List Input) (s : State) (plays : played b.kept b.state history ≡ ok s) where
  pub facts : Beginning plan table starting b
  facts = begun plan table starting b begins

  pub same-plan : facts.read ≡ p
  same-plan = ok_injective (sym facts.is_read ∙ reads)

  pub plays_on : played (kept_for facts.read facts.rows) (state_at_start starting) history ≡ ok s
  plays_on = subst (λ (b : Begun). played b.kept b.state history ≡ ok s) facts.is plays

  -- of each module of the plan
  pub first_of : (m : ℕ) → m < length facts.read.modules → ModeOf (kept_for facts.read facts.rows) m (first_in starting m)
  unfolding kept_of layout_of
  first_of m w =
      first-mode (kept_for facts.read facts.rows) starting m w
      (facts.starts m (fair_module facts.read facts.kept facts.rows m w).place)

  pub timed : (m : ℕ) → m < length facts.read.modules → Timed (kept_for facts.read facts.rows) (first_in starting) m s history
  timed m w =
      timed_along (kept_for facts.read facts.rows) starting m (fair_module facts.read facts.kept facts.rows m w)
      (first_of m w) history s plays_on

  module _ (t : ℕ) (w : t < length facts.read.tasks) where
    pub fair : FairTask (kept_for facts.read facts.rows) t
    fair = fair-task facts.read facts.kept facts.rows t w

    pub first : ModeOf (kept_for facts.read facts.rows) ((kept_for facts.read facts.rows).task_home t)
        (first_in starting ((kept_for facts.read facts.rows).task_home t))
    unfolding kept_of layout_of
    first = first_of (the_task facts.read t).home (fair-home facts.read facts.kept t w)

    shows-own : s.shown (task_node facts.read t) t ≡ board_value facts.read starting t history
    unfolding kept_of layout_of home_node task_node board_value home_in
    shows-own = (own_along (kept_for facts.read facts.rows) starting t fair first history s plays_on).shows

    module _ (bus : is_bus_task facts.read t ≡ true) where
      pub on-bus : FairBus (kept_for facts.read facts.rows) t
      on-bus = fair-bus facts.read facts.kept facts.is_laid facts.rows facts.obeys t w bus

      pub heard-is : heard_in (kept_for facts.read facts.rows) (first_in starting) t history
          ≡ heard_value facts.read (traffic facts.read) starting t history
      unfolding kept_of layout_of heard_value home_in
      heard-is =
          heard-same (home_in facts.read) (period_in facts.read) (first_in starting) (traffic facts.read).period
          (sent_in (kept_for facts.read facts.rows)) (has (traffic facts.read).messages) t
          (λ μ d. sent_is facts.read facts.kept facts.rows t μ d)
          history

      pub shows-heard : (n : ℕ) → (task_node facts.read t ≡ n → ⊥) → s.shown n t ≡ heard_value facts.read (traffic facts.read) starting t history
      unfolding kept_of home_node task_node
      shows-heard n away =
          landed_along (kept_for facts.read facts.rows) starting t fair first on-bus n away history s plays_on ∙ heard-is

      hears_board : is_thinned facts.read t ≡ false → heard_value facts.read (traffic facts.read) starting t history ≡ board_value facts.read starting t history
      unfolding kept_of board_value home_in
      hears_board whole =
          sym heard-is
          ∙ heard_along (kept_for facts.read facts.rows) starting t fair first on-bus
          (every_run facts.read facts.kept facts.rows t bus whole) history s plays_on

    pub shows-idle : any (invokes t) facts.read.invocations ≡ false → (n : ℕ) → s.shown n t ≡ board_value facts.read starting t history
    unfolding kept_of layout_of board_value home_in period_in
    shows-idle quiet n =
        idle_along (kept_for facts.read facts.rows) starting t fair first n
        (λ μ. uninvoked facts.read facts.read.invocations μ t quiet) history s plays_on

  -- on a task's own node
  pub transparent_own : (t : ℕ) → t < length p.tasks → s.shown (task_node p t) t ≡ board_value p starting t history
  transparent_own t =
      subst (λ (p : Plan). t < length p.tasks → s.shown (task_node p t) t ≡ board_value p starting t history) same-plan (shows-own t)

  -- a bus task, on every other node: the result of the last ended run whose message is sent
  pub transparent_heard : (n t : ℕ) → t < length p.tasks → is_bus_task p t ≡ true → (task_node p t ≡ n → ⊥)
      → s.shown n t ≡ heard_value p (traffic p) starting t history
  transparent_heard n t =
      subst (λ (p : Plan). t < length p.tasks → is_bus_task p t ≡ true → (task_node p t ≡ n → ⊥) → s.shown n t ≡ heard_value p (traffic p) starting t history)
      same-plan (λ w bus. shows-heard t w bus n)

  -- where it is not thinned every run has its message, so this is the one board's value
  pub heard_board : (t : ℕ) → t < length p.tasks → is_bus_task p t ≡ true → is_thinned p t ≡ false
      → heard_value p (traffic p) starting t history ≡ board_value p starting t history
  heard_board t =
      subst (λ (p : Plan). t < length p.tasks → is_bus_task p t ≡ true → is_thinned p t ≡ false → heard_value p (traffic p) starting t history ≡ board_value p starting t history)
      same-plan (hears_board t)

  -- a bus task that is not thinned, on every node
  pub transparent_bus : (n t : ℕ) → t < length p.tasks → is_bus_task p t ≡ true → is_thinned p t ≡ false → s.shown n t ≡ board_value p starting t history
  transparent_bus n t w bus whole = where_it_is (tested (eqb (task_node p t) n))
    where
      where_it_is : (eqb (task_node p t) n ≡ true) ⊎ (eqb (task_node p t) n ≡ false) → s.shown n t ≡ board_value p starting t history
      where_it_is (inl e) =
          subst (λ (n : ℕ). s.shown n t ≡ board_value p starting t history) (eqb-true (task_node p t) n e) (transparent_own t w)
      where_it_is (inr e) = transparent_heard n t w bus (eqb-false (task_node p t) n e) ∙ heard_board t w bus whole

  -- on every node that consumes a task of another node, if it is not thinned
  pub transparent : (n t : ℕ) → consumes p n t ≡ true → is_thinned p t ≡ false → s.shown n t ≡ board_value p starting t history
  transparent n t =
      subst (λ (p : Plan). consumes p n t ≡ true → is_thinned p t ≡ false → s.shown n t ≡ board_value p starting t history) same-plan
      (λ c whole. invoked-or-not c whole (tested (any (invokes t) facts.read.invocations)))
    where
      invoked-or-not : consumes facts.read n t ≡ true → is_thinned facts.read t ≡ false
          → (any (invokes t) facts.read.invocations ≡ true) ⊎ (any (invokes t) facts.read.invocations ≡ false)
          → s.shown n t ≡ board_value facts.read starting t history
      invoked-or-not c whole (inl e) =
          let there = consumed-there facts.read n t c facts.kept in
          let bus = is-bus facts.read t e (consumed-leaves facts.read n t c) in
          shows-heard t there bus n (consumed_away facts.read n t c) ∙ hears_board t there bus whole
      invoked-or-not c whole (inr e) = shows-idle t (consumed-there facts.read n t c facts.kept) e n
