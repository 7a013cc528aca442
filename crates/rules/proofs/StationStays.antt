-- StationStays: a station that comes from a beginning holds no number outside its range, so refusal 40 never comes to it. An accepted
-- tick stays within; a beginning is within.
use mathlib.Core.Path.{◌≡◌, refl, sym, ◌∙◌, subst}
use mathlib.Core.Bool.{Bool, true, false, cond, not, ◌&&◌}
use mathlib.Core.List.{List, [], ◌∷◌, Memᴰ}
use mathlib.Core.Logic.{◌⊎◌, inl, inr, ◌↔◌}
use mathlib.Core.Option
use mathlib.Core.Option.{Option, none, some}
use native.Mathlib.Nat.{pow-le-pow_right, div-le_self}
use native.Mathlib.Omega.{arith}
use borrow.Author.Tests.{eqb-true}
use lib.Dec.{eqb, ltb, lit<}
use lib.ListN.{length, get_or, get_or-eq_default}
use Prim.Native.Nat.{ℕ, ◌+◌, ◌≤◌, ◌<◌, ◌^◌, zero-le}
use Rattle.laws.specs.Res.{ok, refuse, unless}
use Rattle.laws.proofs.Lists.{both_left, both_right}
use Rattle.laws.proofs.Res.{ok_injective, bind_case, then_refused}
use Rattle.laws.proofs.Tests.{Tests, by_lt}
use Rattle.laws.proofs.Orders.{le-or-lt}
use Rattle.laws.proofs.Members.{All, empty, also, all_weaker, all_get_d, all-get_or-or, all_of_places, any_member}
use Rattle.laws.proofs.Faults.{by_failed, by_fails, unless-refused}
use Rattle.rules.specs.Plan.{Mode, Task, Invocation, Plan, no_mode, no_task, the_mode, the_task, period_of}
use Rattle.rules.specs.Traffic.{module_node, traffic}
use Rattle.rules.specs.Frames.{Pair, pairs, ControlRow, no_control_row, control_rows, Layout, layout_of}
use Rattle.rules.specs.LatestRelease.{no_pair}
use Rattle.rules.specs.Checker.{Named, Row, TableRead, table_of, control_at, no_row, row_at, is_pair_of, holds_pair, row_holding, Passed, check_files, is_for_consumers}
use Rattle.rules.specs.Playing.{node_places, module_places, task_places, Input, is_given, is_run, period_among, period_in}
use Rattle.rules.specs.Station.{
  Kept,
  kept_of,
  State,
  passed_pair,
  passed_row,
  state_at_start,
  out_after,
  row_with,
  lands_on,
  landed_after,
  is_byte_of,
  held_by,
  held_after,
  own_shows,
  other_shows,
  shown_after,
  mode_after,
  one_on,
  age_after,
  starting_control,
  mode_byte_by,
  mode_byte_after,
  starts_now,
  load_after,
  tick,
  Ticked,
  step,
  Begun,
  begin,
}
use Rattle.rules.specs.History.{played}
use Rattle.rules.specs.StationRange.{in_range, ticked}
use Rattle.rules.specs.Obeys.{ObeysTable, MayTick, StartsRight}
use Rattle.rules.proofs.PlanKept.{PlanKept}
use Rattle.rules.proofs.StationRanges.{IsValue}
pub use Rattle.rules.proofs.StationRanges.{KeptIn, StateIn, range_tests}
use Rattle.rules.proofs.LaidOut.{LaidOut, laid_out, period-kept, PairKept, pairs-kept, control-kept, control-count}
use Rattle.rules.proofs.CheckerExact.{passed_says, passed_passes}
use Rattle.rules.proofs.StationExact.{step_accepted, numbers_of_ticks, begin_exact}
use Rattle.rules.proofs.Editions.{readable_kept_in}

-- ---- an accepted tick stays within

cond_keeps : {A : Type 0} (P : A → Type 0) (b : Bool) {x y : A} → P x → P y → P (cond b x y)
cond_keeps P true p q = p
cond_keeps P false p q = q

given_keeps : {A : Type 0} (P : A → Type 0) (o : Option A) {d : A} → ((x : A) → o ≡ some x → P x) → P d → P (Option.get_or o d)
given_keeps P none f p = p
given_keeps P (some x) f p = f x refl

-- a result of at most 8 bytes has 64 bits
eight_bytes : (v size : ℕ) → v < 256 ^ size → size ≤ 8 → IsValue v
eight_bytes v size h w =
    let most : 256 ^ size ≤ 256 ^ 8 = pow-le-pow_right {n = 256} (lit< tt) w in
    omega (arith, most)

one_on_within : (now period : ℕ) → 0 < period → one_on now period ≤ period
unfolding one_on
one_on_within now period h = go (ltb now period) (by_lt now period)
  where
    go : (b : Bool) → Tests b (now < period) → cond b (now + 1) 1 ≤ period
    go true t = let l : now < period = t.says refl in omega arith
    go false t = h

module _ {k : Kept} {s : State} {i : Input} (kept : KeptIn k) (state : StateIn k s) (may : MayTick k s i) where
  out_stays : (t : ℕ) → t < task_places → IsValue (out_after s i t)
  unfolding out_after
  out_stays t w =
      given_keeps IsValue (i.result t)
      (λ v e. eight_bytes v (k.task_size t) (may.fits t v w e) (kept.tasks t w).size)
      (state.boxes t w)

  landed-stays : (n : ℕ) → n < node_places → (t : ℕ) → t < task_places → IsValue (landed_after k s n t)
  unfolding landed_after
  landed-stays n v t w = cond_keeps IsValue (lands_on k s n t) (state.loads t w) (state.landed n v t w)

  shown-stays : (n : ℕ) → n < node_places → (t : ℕ) → t < task_places → IsValue (shown_after k s i n t)
  unfolding shown_after
  shown-stays n v t w =
      cond_keeps IsValue (own_shows k s n t) (out_stays t w)
      (cond_keeps IsValue (other_shows k s n t) (landed-stays n v t w) (state.shown n v t w))

  held_stays : (n : ℕ) → n < node_places → (m : ℕ) → m < module_places → held_after k s n m < k.modes
  unfolding held_after
  held_stays n v m w = go (row_with k.control_stop k.controls s.clock)
    where
      go : (o : Option ℕ) → held_by k s n m o < k.modes
      go none = state.held n v m w
      go (some r) =
          cond_keeps (λ μ. μ < k.modes) (is_byte_of k m r && not (eqb (k.module_node m) n)) (state.plays m w).byte (state.held n v m w)

  load-stays : (t : ℕ) → t < task_places → IsValue (load_after k s i t)
  unfolding load_after
  load-stays t w = cond_keeps IsValue (starts_now k s t) (out_stays t w) (state.loads t w)

  mode-stays : (m : ℕ) → m < module_places → mode_after s i m < k.modes
  unfolding mode_after
  mode-stays m w = given_keeps (λ μ. μ < k.modes) (i.change m) (λ μ e. (may.allowed m μ w e).is_mode) (state.plays m w).mode

  own-stays : (m : ℕ) → m < module_places → m < k.modules → k.mode_home (mode_after s i m) ≡ m
  unfolding mode_after
  own-stays m w v = given_keeps (λ μ. k.mode_home μ ≡ m) (i.change m) (λ μ e. (may.allowed m μ w e).own) ((state.plays m w).own v)

  some-period : (μ : ℕ) → μ < k.modes → 0 < k.mode_period μ
  some-period μ h = ((kept.modes μ (omega (arith, h, kept.mode_count.most))).there h).0

  age-stays : (m : ℕ) → m < module_places → age_after k s i m ≤ k.mode_period (mode_after s i m)
  unfolding age_after mode_after
  age-stays m w = go (i.change m) (λ μ e. (may.allowed m μ w e).is_mode)
    where
      go : (o : Option ℕ) → ((μ : ℕ) → o ≡ some μ → μ < k.modes)
          → cond (is_given o) 1 (one_on (s.age m) (k.mode_period (s.mode m))) ≤ k.mode_period (Option.get_or o (s.mode m))
      go none h = one_on_within (s.age m) (k.mode_period (s.mode m)) (some-period (s.mode m) (state.plays m w).mode)
      go (some μ) h = some-period μ (h μ refl)

  byte-stays : (m : ℕ) → m < module_places → mode_byte_after k s i m < k.modes
  unfolding mode_byte_after
  byte-stays m w = go (starting_control k s)
    where
      go : (o : Option ℕ) → mode_byte_by k s i m o < k.modes
      go none = (state.plays m w).byte
      go (some r) = cond_keeps (λ μ. μ < k.modes) (is_byte_of k m r) (mode-stays m w) (state.plays m w).byte

  pub state-stays : StateIn k (tick k s i)
  unfolding tick
  state-stays =
      record {
        clock = one_on_within s.clock k.period kept.period.least;
        plays = λ m w. record { mode = mode-stays m w; own = own-stays m w; age = age-stays m w; byte = byte-stays m w };
        boxes = out_stays;
        loads = load-stays;
        landed = landed-stays;
        shown = shown-stays;
        held = held_stays;
      }

-- a tick of a station in range leaves it in range
pub tick-stays : (k : Kept) (s : State) (i : Input) (a : Ticked) → in_range k s ≡ true → step k s i ≡ ok a → in_range k a.state ≡ true
tick-stays k s i a e q =
    let h = (range_tests k s).says e in
    let accepted = step_accepted k s i a q in
    rw accepted.is ((range_tests k (tick k s i)).passes (h.0, state-stays h.0 h.1 accepted.may))

-- in range a tick is judged by 41 to 44 alone
pub in_range_steps : (k : Kept) (s : State) (i : Input) → in_range k s ≡ true → ticked k s i ≡ step k s i
unfolding ticked
in_range_steps k s i e = rw e

-- ---- a beginning is within

record ModeWithin (p : Plan) (μ : Mode) : Type 0 where
  home : μ.home < length p.modules
  period : μ.period ≤ 1000000
  switch : μ.switch ≤ 1000000

record TaskWithin (p : Plan) (t : Task) : Type 0 where
  home : t.home < length p.modules
  size : t.size ≤ 8
  worst : t.worst ≤ 1000000

module _ (p : Plan) (kept : PlanKept p) where
  mode-begins : (μ : ℕ) → ModeWithin p (the_mode p μ)
  unfolding the_mode
  mode-begins =
      all-get_or-or {P = ModeWithin p} no_mode
      (all_weaker (λ μ h. record { home = h.home; period = h.period.most; switch = h.switch.most }) kept.modes)
      (record { home = kept.module_count.least; period = zero-le; switch = zero-le })

  mode-there : (μ : ℕ) → μ < length p.modes → (0 < (the_mode p μ).period) × (0 < (the_mode p μ).switch)
  unfolding the_mode
  mode-there μ w = let h = all_get_d no_mode kept.modes μ w in (h.period.least, h.switch.least)

  task-begins : (t : ℕ) → TaskWithin p (the_task p t)
  unfolding the_task
  task-begins =
      all-get_or-or {P = TaskWithin p} no_task
      (all_weaker (λ t h. record { home = h.home; size = h.size.most; worst = h.worst.most }) kept.tasks)
      (record { home = kept.module_count.least; size = zero-le; worst = zero-le })

  task-there : (t : ℕ) → t < length p.tasks → (0 < (the_task p t).size) × (0 < (the_task p t).worst)
  unfolding the_task
  task-there t w = let h = all_get_d no_task kept.tasks t w in (h.size.least, h.worst.least)

  pub node-begins : (m : ℕ) → module_node p m < node_places
  unfolding module_node
  node-begins =
      all-get_or-or {P = λ n. n < node_places} 0 (all_weaker (λ n h. omega (arith, h, kept.node_count.most)) kept.modules) (lit< tt)

-- a run's period is at most its mode's
run-begins : (p : Plan) (is : List Invocation) (μ t : ℕ) → period_among p is μ t ≤ (the_mode p μ).period
unfolding period_among is_run period_of
run-begins p [] μ t = zero-le
run-begins p (i ∷ is) μ t = go (is_run μ t i) refl (run-begins p is μ t)
  where
    go : (b : Bool) → is_run μ t i ≡ b → period_among p is μ t ≤ (the_mode p μ).period
        → cond b (period_of p i) (period_among p is μ t) ≤ (the_mode p μ).period
    go true e rest =
        let same : i.mode ≡ μ = eqb-true i.mode μ (both_left (eqb i.mode μ) (eqb i.task t) e) in
        rw same (div-le_self (the_mode p μ).period i.rate)
    go false e rest = rest

-- a control row of a table that passes lies within P and names a node; behind the rows all is zero
record ControlWithin (p : Plan) (r : ControlRow) : Type 0 where
  node : r.node < node_places
  start : r.start ≤ (traffic p).period
  stop : r.stop ≤ (traffic p).period

-- a data row of such a table starts before it stops, and stops by the deadline of each pair that it holds
record RowWithin (r : Row) : Type 0 where
  order : r.start ≤ r.stop
  due : (n : Named) → Memᴰ n r.holds → r.stop ≤ n.deadline

-- so the row that a pair rides in stops by the pair's deadline, and that of a pair in no row is zero
record Rides (f : Pair) (r : Row) : Type 0 where
  order : r.start ≤ r.stop
  due : r.stop ≤ f.deadline

module _ (f : Pair) where
  rides : (r : Row) → RowWithin r → holds_pair f r ≡ true → Rides f r
  unfolding holds_pair is_pair_of
  rides r h e =
      let n = any_member (λ n. is_pair_of n f) r.holds e in
      let deadline = eqb-true n.one.deadline f.deadline (both_right (eqb n.one.task f.task) _ n.passes) in
      record { order = h.order; due = omega (arith, deadline, h.due n.one n.among) }

  holding_rides : {rows : List Row} → All RowWithin rows → Rides f (row_holding rows f)
  unfolding row_holding
  holding_rides empty = record { order = zero-le; due = zero-le }
  holding_rides (also {x = r} {l = rows} h rest) = go (holds_pair f r) refl (holding_rides rest)
    where
      go : (b : Bool) → holds_pair f r ≡ b → Rides f (row_holding rows f) → Rides f (cond b r (row_holding rows f))
      go true e q = rides r h e
      go false e q = q

module _ (p : Plan) (kept : PlanKept p) {l : Layout} (laid : LaidOut p l) (t : TableRead) (obeys : ObeysTable (layout_of p) t) where
  control-row : (r : ℕ) → r < length t.control → ControlWithin p (control_at t.control r)
  unfolding layout_of control_at
  control-row r w =
      let many : r < length (control_rows p) = omega (arith, w, obeys.header.control_rows) in
      let h = all_get_d no_control_row (control-kept p) r many in
      rw (obeys.control r w)
      (record {
        node = omega (arith, h.node, kept.node_count.most);
        start = omega (arith, h.start, h.stop, laid.room);
        stop = omega (arith, h.stop, laid.room);
      })

  control-begins : (r : ℕ) → ControlWithin p (control_at t.control r)
  unfolding control_at
  control-begins r = go (le-or-lt (length t.control) r)
    where
      go : (length t.control ≤ r) ⊎ (r < length t.control) → ControlWithin p (control_at t.control r)
      go (inl h) = rw (get_or-eq_default t.control no_control_row h) (record { node = lit< tt; start = zero-le; stop = zero-le })
      go (inr w) = control-row r w

  rows-within : All RowWithin t.rows
  unfolding row_at
  rows-within =
      all_of_places t.rows no_row
      (λ k w. record { order = omega (arith, (obeys.time k w).stop (obeys.names k w).pairs (obeys.names k w).names); due = obeys.in_time k w })

  pair-begins : (q : ℕ) → PairKept p (get_or (layout_of p).pairs q no_pair)
  unfolding layout_of pairs
  pair-begins = all-get_or-or {P = PairKept p} no_pair (pairs-kept p kept) (record { task = kept.task_count.least; deadline = zero-le })

  kept_of_plan : KeptIn (kept_of (record { plan = p; traffic = traffic p; layout = layout_of p; table = t }))
  unfolding kept_of layout_of traffic pairs period_in passed_pair passed_row
  kept_of_plan =
      record {
        module_count = kept.module_count;
        mode_count = kept.mode_count;
        task_count = kept.task_count;
        period = period-kept p kept laid;
        control_count = omega (arith, obeys.header.control_rows, control-count p, kept.node_count.most);
        pair_count = laid.few;
        modules = λ m w. node-begins p kept m;
        modes = λ μ w. let h = mode-begins p kept μ in record { home = h.home; period = h.period; switch = h.switch; there = mode-there p kept μ };
        tasks = λ u w. let h = task-begins p kept u in record { home = h.home; size = h.size; worst = h.worst; there = task-there p kept u };
        runs = λ μ w u v. run-begins p p.invocations μ u;
        controls = λ r w. let h = control-begins r in record { node = h.node; start = h.start; stop = h.stop };
        pairs =
            λ q w. let h = pair-begins q in
            let row = holding_rides (get_or (layout_of p).pairs q no_pair) rows-within in
            record {
              task = h.task;
              deadline = h.deadline;
              start = omega (arith, h.deadline, row.order, row.due);
              stop = omega (arith, h.deadline, row.due);
            };
      }

-- what a station keeps of a table that passes
pub kept-begins : (plan table : List ℕ) (c : Passed) → check_files plan table ≡ ok c → KeptIn (kept_of c)
kept-begins plan table c e =
    let h = passed_says plan table c e in
    let same = ok_injective (sym (passed_passes plan table h) ∙ e) in
    let laid = laid_out h.read h.laid h.is_laid in
    let t = table_of h.rows in
    subst (λ (c : Passed). KeptIn (kept_of c)) same
    (subst (λ (l : Layout). ObeysTable l t → KeptIn (kept_of (record { plan = h.read; traffic = traffic h.read; layout = l; table = t }))) laid.is
    (kept_of_plan h.read (readable_kept_in (is_for_consumers table) plan h.read h.is_read) laid t)
    h.obeys)

module _ (k : Kept) (kept : KeptIn k) (starting : ℕ → Option ℕ) (starts : (m : ℕ) → m < module_places → StartsRight k starting m) where
  -- the mode that is started with
  abbrev first : ℕ → ℕ
  first m = Option.get_or (starting m) 0

  first-is : (m : ℕ) → m < module_places → m < k.modules → (first m < k.modes) × (k.mode_home (first m) ≡ m)
  first-is m w v = let h = (starts m w).own v in rw h.1 (h.2, h.3)

  first-there : (m : ℕ) → m < module_places → first m < k.modes
  first-there m w = go (le-or-lt k.modules m)
    where
      go : (k.modules ≤ m) ⊎ (m < k.modules) → first m < k.modes
      go (inl h) = rw ((starts m w).later h) kept.mode_count.least
      go (inr v) = (first-is m w v).0

  state-begins : StateIn k (state_at_start starting)
  unfolding state_at_start
  state-begins =
      record {
        clock = zero-le;
        plays = λ m w. record { mode = first-there m w; own = λ v. (first-is m w v).1; age = zero-le; byte = kept.mode_count.least };
        boxes = λ t w. lit< tt;
        loads = λ t w. lit< tt;
        landed = λ n v t w. lit< tt;
        shown = λ n v t w. lit< tt;
        held = λ n v m w. kept.mode_count.least;
      }

-- a beginning gives a station in range
pub begin_in_range : (plan table : List ℕ) (starting : ℕ → Option ℕ) (b : Begun) → begin plan table starting ≡ ok b
    → in_range b.kept b.state ≡ true
begin_in_range plan table starting b e =
    let h = (begin_exact plan table starting b).0 e in
    let kept = kept-begins plan table h.played h.passes in
    rw h.is
    ((range_tests (kept_of h.played) (state_at_start starting)).passes (kept, state-begins (kept_of h.played) kept starting h.starts))

-- and it stays in range however it is played
played_in_range : (k : Kept) (s : State) (past : List Input) (now : State) → in_range k s ≡ true → played k s past ≡ ok now → in_range k now ≡ true
unfolding played
played_in_range k s [] now h e = rw (← ok_injective e) h
played_in_range k s (i ∷ past) now h e =
    bind_case (played k s past) _ e λ before done e₁.
    bind_case (step k before i) _ e₁ λ a accepted e₂.
    rw (← ok_injective e₂) (tick-stays k before i a (played_in_range k s past before h done) accepted)

pub stays_in_range : (plan table : List ℕ) (starting : ℕ → Option ℕ) (b : Begun) (past : List Input) (now : State)
    → begin plan table starting ≡ ok b → played b.kept b.state past ≡ ok now → in_range b.kept now ≡ true
stays_in_range plan table starting b past now e = played_in_range b.kept b.state past now (begin_in_range plan table starting b e)

-- so refusal 40 never comes to a station that comes from a beginning
pub never_forty : (plan table : List ℕ) (starting : ℕ → Option ℕ) (b : Begun) (past : List Input) (now : State) (i : Input)
    → begin plan table starting ≡ ok b → played b.kept b.state past ≡ ok now → ticked b.kept now i ≡ step b.kept now i
never_forty plan table starting b past now i e h = in_range_steps b.kept now i (stays_in_range plan table starting b past now e h)

-- and to any other station value it comes exactly where a number is outside its range, at 0
pub tick_forty : (k : Kept) (s : State) (i : Input) (p : ℕ) → (ticked k s i ≡ refuse 40 p) ↔ ((KeptIn k × StateIn k s → ⊥) × (p ≡ 0))
unfolding ticked
tick_forty k s i p = (refuses, refused)
  where
    refuses : ticked k s i ≡ refuse 40 p → (KeptIn k × StateIn k s → ⊥) × (p ≡ 0)
    refuses e =
        then_refused (unless 40 0 (in_range k s)) (step k s i) e
        (λ f. let r = unless-refused 40 0 (in_range k s) 40 p f in (by_failed (range_tests k s) r.0, sym r.2))
        (λ u f g. absurd (omega (arith, (numbers_of_ticks k s i).number 40 p g)))

    refused : (KeptIn k × StateIn k s → ⊥) × (p ≡ 0) → ticked k s i ≡ refuse 40 p
    refused h = rw (by_fails (range_tests k s) h.0, h.1)
