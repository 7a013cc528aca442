-- Of what a station keeps, too, a tick looks at the station's own places alone: 8 nodes, 16 modules, 32 modes, 32 tasks, 8 control
-- rows, 1,024 pairs. Where two stations keep the same at these, their ticks answer the same, and each follows the other's history.
use mathlib.Core.Path.{◌≡◌, refl, sym, ap, ◌∙◌}
use mathlib.Core.Bool.{Bool, true, false, not, ◌&&◌}
use mathlib.Core.List.{List}
use mathlib.Core.Option.{Option, none, some}
use native.Mathlib.Omega.{arith}
use borrow.Author.Tests.{ltb-true}
use lib.Dec.{eqb, ltb}
use Prim.Native.Nat.{ℕ, ◌%◌, ◌<◌}
use Rattle.laws.specs.Res.{Res, ok, refuse, ◌>>◌, unless}
use Rattle.laws.specs.Lists.{any, up_to}
use Rattle.laws.proofs.Tests.{by_same}
use Rattle.laws.proofs.Turns.{same_bad, same-any}
use Rattle.rules.specs.Limits.{most_frames}
use Rattle.rules.specs.Playing.{node_places, module_places, mode_places, task_places, Input}
use Rattle.rules.specs.Station.{Kept, State, home_node, run_period, task_age, run_age, is_running, is_awaited, result_awaited, result_fits, is_last_chance, result_in_time, is_mode_of, may_switch, may_take, change_allowed, judged_tick, row_with, is_at, some_at, is_sent_at, some_sent_at, lands_on, landed_after, is_byte_of, held_by, held_after, ends_now, has_message, own_shows, other_shows, shown_after, mode_after, one_on, age_after, given_after, starting_control, starting_pair, mode_byte_by, mode_byte_after, starts_now, is_taken, full_after, load_after, tick, kept_control, kept_data, started_by, started, step}
use Rattle.rules.specs.StationRange.{in_range, ticked}
use Rattle.rules.specs.Obeys.{MayTick}
use Rattle.rules.proofs.StationExact.{judged_exact}
use Rattle.rules.proofs.StationRanges.{ModeIn, TaskIn, ControlIn, PairIn, KeptIn, PlayIn, StateIn, range_tests}
use Rattle.rules.proofs.StationStays.{state-stays}
use Rattle.rules.proofs.StationPlaces.{Agree, agree_trans, SameAnswer, accepted, refused, answer_ok, Follows, begun, next}
use Rattle.rules.proofs.TransparentTick.{row_is, row_by_other}

-- Two stations keep the same at every place.
pub record SameKept (k k' : Kept) : Type 0 where
  pub modules : k.modules ≡ k'.modules
  pub modes : k.modes ≡ k'.modes
  pub tasks : k.tasks ≡ k'.tasks
  pub period : k.period ≡ k'.period
  pub module_node : (m : ℕ) → m < module_places → k.module_node m ≡ k'.module_node m
  pub sends : (m : ℕ) → m < module_places → k.sends m ≡ k'.sends m
  pub mode_home : (μ : ℕ) → μ < mode_places → k.mode_home μ ≡ k'.mode_home μ
  pub mode_period : (μ : ℕ) → μ < mode_places → k.mode_period μ ≡ k'.mode_period μ
  pub mode_switch : (μ : ℕ) → μ < mode_places → k.mode_switch μ ≡ k'.mode_switch μ
  pub task_home : (t : ℕ) → t < task_places → k.task_home t ≡ k'.task_home t
  pub task_size : (t : ℕ) → t < task_places → k.task_size t ≡ k'.task_size t
  pub task_worst : (t : ℕ) → t < task_places → k.task_worst t ≡ k'.task_worst t
  pub run : (μ : ℕ) → μ < mode_places → (t : ℕ) → t < task_places → k.run μ t ≡ k'.run μ t
  pub controls : k.controls ≡ k'.controls
  pub control_node : (r : ℕ) → r < node_places → k.control_node r ≡ k'.control_node r
  pub control_start : (r : ℕ) → r < node_places → k.control_start r ≡ k'.control_start r
  pub control_stop : (r : ℕ) → r < node_places → k.control_stop r ≡ k'.control_stop r
  pub pairs : k.pairs ≡ k'.pairs
  pub pair_task : (q : ℕ) → q < most_frames → k.pair_task q ≡ k'.pair_task q
  pub pair_deadline : (q : ℕ) → q < most_frames → k.pair_deadline q ≡ k'.pair_deadline q
  pub pair_start : (q : ℕ) → q < most_frames → k.pair_start q ≡ k'.pair_start q
  pub pair_stop : (q : ℕ) → q < most_frames → k.pair_stop q ≡ k'.pair_stop q
  pub pair_has : (q : ℕ) → q < most_frames → (μ : ℕ) → μ < mode_places → k.pair_has q μ ≡ k'.pair_has q μ

pub same-kept_sym : {k k' : Kept} → SameKept k k' → SameKept k' k
same-kept_sym same =
    record {
      modules = sym same.modules;
      modes = sym same.modes;
      tasks = sym same.tasks;
      period = sym same.period;
      module_node = λ m w. sym (same.module_node m w);
      sends = λ m w. sym (same.sends m w);
      mode_home = λ μ w. sym (same.mode_home μ w);
      mode_period = λ μ w. sym (same.mode_period μ w);
      mode_switch = λ μ w. sym (same.mode_switch μ w);
      task_home = λ t w. sym (same.task_home t w);
      task_size = λ t w. sym (same.task_size t w);
      task_worst = λ t w. sym (same.task_worst t w);
      run = λ μ v t w. sym (same.run μ v t w);
      controls = sym same.controls;
      control_node = λ r w. sym (same.control_node r w);
      control_start = λ r w. sym (same.control_start r w);
      control_stop = λ r w. sym (same.control_stop r w);
      pairs = sym same.pairs;
      pair_task = λ q w. sym (same.pair_task q w);
      pair_deadline = λ q w. sym (same.pair_deadline q w);
      pair_start = λ q w. sym (same.pair_start q w);
      pair_stop = λ q w. sym (same.pair_stop q w);
      pair_has = λ q w μ v. sym (same.pair_has q w μ v);
    }

-- ---- refusal 40

module _ {k k' : Kept} (same : SameKept k k') where
  mode_range : (μ : ℕ) → μ < mode_places → ModeIn k μ → ModeIn k' μ
  mode_range μ w h =
      record {
        home = rw (← same.mode_home μ w, ← same.modules) h.home;
        period = rw (← same.mode_period μ w) h.period;
        switch = rw (← same.mode_switch μ w) h.switch;
        there = rw (← same.modes, ← same.mode_period μ w, ← same.mode_switch μ w) h.there;
      }

  task_range : (t : ℕ) → t < task_places → TaskIn k t → TaskIn k' t
  task_range t w h =
      record {
        home = rw (← same.task_home t w, ← same.modules) h.home;
        size = rw (← same.task_size t w) h.size;
        worst = rw (← same.task_worst t w) h.worst;
        there = rw (← same.tasks, ← same.task_size t w, ← same.task_worst t w) h.there;
      }

  control_range : (r : ℕ) → r < node_places → ControlIn k r → ControlIn k' r
  control_range r w h =
      record {
        node = rw (← same.control_node r w) h.node;
        start = rw (← same.control_start r w, ← same.period) h.start;
        stop = rw (← same.control_stop r w, ← same.period) h.stop;
      }

  pair_range : (q : ℕ) → q < most_frames → PairIn k q → PairIn k' q
  pair_range q w h =
      record {
        task = rw (← same.pair_task q w, ← same.tasks) h.task;
        deadline = rw (← same.pair_deadline q w, ← same.period) h.deadline;
        start = rw (← same.pair_start q w, ← same.period) h.start;
        stop = rw (← same.pair_stop q w, ← same.period) h.stop;
      }

  kept_range : KeptIn k → KeptIn k'
  kept_range h =
      record {
        module_count = rw (← same.modules) h.module_count;
        mode_count = rw (← same.modes) h.mode_count;
        task_count = rw (← same.tasks) h.task_count;
        period = rw (← same.period) h.period;
        control_count = rw (← same.controls) h.control_count;
        pair_count = rw (← same.pairs) h.pair_count;
        modules = λ m w. rw (← same.module_node m w) (h.modules m w);
        modes = λ μ w. mode_range μ w (h.modes μ w);
        tasks = λ t w. task_range t w (h.tasks t w);
        runs = λ μ v t w. rw (← same.run μ v t w, ← same.mode_period μ v) (h.runs μ v t w);
        controls = λ r w. control_range r w (h.controls r w);
        pairs = λ q w. let v : q < k.pairs = rw same.pairs w in pair_range q (omega (arith, h.pair_count)) (h.pairs q v);
      }

  play_range : {s : State} (m : ℕ) → s.mode m < mode_places → PlayIn k s m → PlayIn k' s m
  play_range {s} m v h =
      record {
        mode = rw (← same.modes) h.mode;
        own = rw (← same.modules, ← same.mode_home (s.mode m) v) h.own;
        age = rw (← same.mode_period (s.mode m) v) h.age;
        byte = rw (← same.modes) h.byte;
      }

  state_range : {s : State} → KeptIn k → StateIn k s → StateIn k' s
  state_range kept h =
      record {
        clock = rw (← same.period) h.clock;
        plays = λ m w. play_range m (omega (arith, (h.plays m w).mode, kept.mode_count.most)) (h.plays m w);
        boxes = h.boxes;
        loads = h.loads;
        landed = h.landed;
        shown = h.shown;
        held = λ n v m w. rw (← same.modes) (h.held n v m w);
      }

pub in_range-kept : {k k' : Kept} → SameKept k k' → (s : State) → in_range k s ≡ in_range k' s
in_range-kept {k} {k'} same s =
    by_same (range_tests k s) (range_tests k' s) (λ h. (kept_range same h.0, state_range same h.0 h.1))
    (λ h. (kept_range (same-kept_sym same) h.0, state_range (same-kept_sym same) h.0 h.1))

-- ---- refusals 41 to 44

-- a test behind one that fails is not asked
and_agree : (b c d : Bool) → (b ≡ true → c ≡ d) → (b && c) ≡ (b && d)
and_agree true c d h = h refl
and_agree false c d h = refl

row_same : (times times' : ℕ → ℕ) (count now : ℕ) → ((r : ℕ) → r < count → times r ≡ times' r) → row_with times count now ≡ row_with times' count now
row_same times times' count now h =
    row_by_other times count now
    ∙ same_bad (λ r. not (eqb (times r) now)) (λ r. not (eqb (times' r) now)) count (λ r w. rw (h r w))
    ∙ sym (row_by_other times' count now)

module _ {k k' : Kept} (same : SameKept k k') (s : State) (i : Input) (kept : KeptIn k) (state : StateIn k s) where
  home-there : (t : ℕ) → t < task_places → k.task_home t < module_places
  home-there t w = omega (arith, (kept.tasks t w).home, kept.module_count.most)

  mode-there : (m : ℕ) → m < module_places → s.mode m < mode_places
  mode-there m w = omega (arith, (state.plays m w).mode, kept.mode_count.most)

  period-same : (t : ℕ) → t < task_places → run_period k s t ≡ run_period k' s t
  unfolding run_period
  period-same t w =
      same.run (s.mode (k.task_home t)) (mode-there (k.task_home t) (home-there t w)) t w
      ∙ ap (λ (m : ℕ). k'.run (s.mode m) t) (same.task_home t w)

  task_age-same : (t : ℕ) → t < task_places → task_age k s t ≡ task_age k' s t
  unfolding task_age
  task_age-same t w = ap s.age (same.task_home t w)

  run_age-same : (t : ℕ) → t < task_places → run_age k s t ≡ run_age k' s t
  unfolding run_age
  run_age-same t w = rw (period-same t w, task_age-same t w)

  running-same : (t : ℕ) → t < task_places → is_running k s t ≡ is_running k' s t
  unfolding is_running
  running-same t w = rw (period-same t w, task_age-same t w)

  result-same : (t : ℕ) → t < task_places → result_awaited k s i t ≡ result_awaited k' s i t
  unfolding result_awaited is_awaited
  result-same t w = rw (running-same t w, run_age-same t w, same.task_worst t w, same.tasks)

  fits-same : (t : ℕ) → t < task_places → result_fits k i t ≡ result_fits k' i t
  unfolding result_fits
  fits-same t w = rw (same.task_size t w)

  in_time-same : (t : ℕ) → t < task_places → result_in_time k s i t ≡ result_in_time k' s i t
  unfolding result_in_time is_last_chance
  in_time-same t w = rw (running-same t w, run_age-same t w, same.task_worst t w, same.tasks)

  mode_of_same : (m μ : ℕ) → is_mode_of k m μ ≡ is_mode_of k' m μ
  unfolding is_mode_of
  mode_of_same m μ =
      rw (
        and_agree (ltb μ k.modes) (eqb (k.mode_home μ) m) (eqb (k'.mode_home μ) m)
            (λ e. ap (λ (h : ℕ). eqb h m) (same.mode_home μ (omega (arith, ltb-true μ k.modes e, kept.mode_count.most)))),
        same.modules,
        same.modes,
      )

  allowed_same : (m : ℕ) → m < module_places → change_allowed k s i m ≡ change_allowed k' s i m
  unfolding change_allowed may_switch
  allowed_same m w = go (i.change m)
    where
      go : (o : Option ℕ) → may_take k s m o ≡ may_take k' s m o
      go none = refl
      go (some μ) = rw (mode_of_same m μ, same.mode_switch (s.mode m) (mode-there m w))

  judged-same : judged_tick k s i ≡ judged_tick k' s i
  unfolding judged_tick
  judged-same =
      rw (
        same_bad (result_awaited k s i) (result_awaited k' s i) task_places result-same,
        same_bad (result_fits k i) (result_fits k' i) task_places fits-same,
        same_bad (result_in_time k s i) (result_in_time k' s i) task_places in_time-same,
        same_bad (change_allowed k s i) (change_allowed k' s i) module_places allowed_same,
      )

  -- ---- rows

  control-few : (r : ℕ) → r < k.controls → r < node_places
  control-few r w = omega (arith, kept.control_count)

  pair-few : (q : ℕ) → q < k.pairs → q < most_frames
  pair-few q w = omega (arith, kept.pair_count)

  control-stops : row_with k.control_stop k.controls s.clock ≡ row_with k'.control_stop k'.controls s.clock
  control-stops =
      row_same k.control_stop k'.control_stop k.controls s.clock (λ r w. same.control_stop r (control-few r w))
      ∙ ap (λ (n : ℕ). row_with k'.control_stop n s.clock) same.controls

  control-starts : starting_control k s ≡ starting_control k' s
  unfolding starting_control
  control-starts =
      row_same k.control_start k'.control_start k.controls (s.clock % k.period) (λ r w. same.control_start r (control-few r w))
      ∙ rw (same.controls, same.period)

  pair-starts : starting_pair k s ≡ starting_pair k' s
  unfolding starting_pair
  pair-starts =
      row_same k.pair_start k'.pair_start k.pairs (s.clock % k.period) (λ q w. same.pair_start q (pair-few q w))
      ∙ rw (same.pairs, same.period)

  starting_few : (r : ℕ) → starting_control k s ≡ some r → r < node_places
  unfolding starting_control
  starting_few r e = control-few r (row_is k.control_start k.controls _ r e).there

  sending-few : (q : ℕ) → starting_pair k s ≡ some q → q < most_frames
  unfolding starting_pair
  sending-few q e = pair-few q (row_is k.pair_start k.pairs _ q e).there

  started-same : started k s ≡ started k' s
  unfolding started kept_control kept_data
  started-same =
      go (starting_control k s) (starting_pair k s) starting_few sending-few
      ∙ rw (control-starts, pair-starts)
    where
      go : (c d : Option ℕ) → ((r : ℕ) → c ≡ some r → r < node_places) → ((r : ℕ) → d ≡ some r → r < most_frames)
          → started_by k c d ≡ started_by k' c d
      go (some r) d few many =
          rw (same.control_node r (few r refl), same.control_start r (few r refl), same.control_stop r (few r refl))
      go none (some q) few many =
          rw (
            same.pair_task q (many q refl),
            same.pair_deadline q (many q refl),
            same.pair_start q (many q refl),
            same.pair_stop q (many q refl),
          )
      go none none few many = refl

  -- ---- pairs of a task

  some_same : (times times' : ℕ → ℕ) → ((q : ℕ) → q < most_frames → times q ≡ times' q) → (t now : ℕ)
      → some_at k times t now ≡ some_at k' times' t now
  unfolding some_at is_at
  some_same times times' alike t now =
      same-any (is_at k times t now) (is_at k' times' t now) (λ q. q) k.pairs
      (λ q w. rw (same.pair_task q (pair-few q w), alike q (pair-few q w)))
      ∙ ap (λ (n : ℕ). any (is_at k' times' t now) (up_to n)) same.pairs

  sent-same : (times times' : ℕ → ℕ) → ((q : ℕ) → q < most_frames → times q ≡ times' q) → (t now μ : ℕ) → μ < mode_places
      → some_sent_at k times t now μ ≡ some_sent_at k' times' t now μ
  unfolding some_sent_at is_sent_at is_at
  sent-same times times' alike t now μ v =
      same-any (is_sent_at k times t now μ) (is_sent_at k' times' t now μ) (λ q. q) k.pairs
      (λ q w. rw (same.pair_task q (pair-few q w), alike q (pair-few q w), same.pair_has q (pair-few q w) μ v))
      ∙ ap (λ (n : ℕ). any (is_sent_at k' times' t now μ) (up_to n)) same.pairs

  starts-same : (t : ℕ) → starts_now k s t ≡ starts_now k' s t
  unfolding starts_now
  starts-same t = some_same k.pair_start k'.pair_start same.pair_start t (s.clock % k.period) ∙ rw same.period

  -- ---- the six steps

  home-node : (t : ℕ) → t < task_places → home_node k t ≡ home_node k' t
  unfolding home_node
  home-node t w = same.module_node (k.task_home t) (home-there t w) ∙ ap k'.module_node (same.task_home t w)

  landed-same : (n t : ℕ) → t < task_places → landed_after k s n t ≡ landed_after k' s n t
  unfolding landed_after lands_on
  landed-same n t w = rw (some_same k.pair_stop k'.pair_stop same.pair_stop t s.clock, home-node t w)

  byte_of_same : (m r : ℕ) → m < module_places → r < node_places → is_byte_of k m r ≡ is_byte_of k' m r
  unfolding is_byte_of
  byte_of_same m r w v = rw (same.sends m w, same.module_node m w, same.control_node r v)

  held_same : (n m : ℕ) → m < module_places → held_after k s n m ≡ held_after k' s n m
  unfolding held_after
  held_same n m w =
      go (row_with k.control_stop k.controls s.clock) (λ r e. control-few r (row_is k.control_stop k.controls s.clock r e).there)
      ∙ ap (held_by k' s n m) control-stops
    where
      go : (o : Option ℕ) → ((r : ℕ) → o ≡ some r → r < node_places) → held_by k s n m o ≡ held_by k' s n m o
      go none few = refl
      go (some r) few = rw (byte_of_same m r w (few r refl), same.module_node m w)

  ends_same : (t : ℕ) → t < task_places → ends_now k s t ≡ ends_now k' s t
  unfolding ends_now
  ends_same t w = rw (running-same t w, period-same t w, task_age-same t w)

  age-same : (m : ℕ) → m < module_places → age_after k s i m ≡ age_after k' s i m
  unfolding age_after
  age-same m w = rw (same.mode_period (s.mode m) (mode-there m w))

  given-same : (t : ℕ) → t < task_places → given_after k s i t ≡ given_after k' s i t
  unfolding given_after
  given-same t w = rw (ends_same t w, same.task_home t w)

  byte-same : (m : ℕ) → m < module_places → mode_byte_after k s i m ≡ mode_byte_after k' s i m
  unfolding mode_byte_after
  byte-same m w = go (starting_control k s) starting_few ∙ ap (mode_byte_by k' s i m) control-starts
    where
      go : (o : Option ℕ) → ((r : ℕ) → o ≡ some r → r < node_places) → mode_byte_by k s i m o ≡ mode_byte_by k' s i m o
      go none few = refl
      go (some r) few = rw (byte_of_same m r w (few r refl))

  load_same : (t : ℕ) → load_after k s i t ≡ load_after k' s i t
  unfolding load_after
  load_same t = rw (starts-same t)

  message-same : (t μ deadline : ℕ) → μ < mode_places → has_message k t μ deadline ≡ has_message k' t μ deadline
  unfolding has_message
  message-same t μ deadline v = sent-same k.pair_deadline k'.pair_deadline same.pair_deadline t deadline μ v

  -- the modes behind an accepted tick, and the mode bytes held, are modes
  module _ (may : MayTick k s i) where
    new-mode-there : (m : ℕ) → m < module_places → mode_after s i m < mode_places
    unfolding tick
    new-mode-there m w = omega (arith, ((state-stays kept state may).plays m w).mode, kept.mode_count.most)

    held-there : (n m : ℕ) → n < node_places → m < module_places → held_after k s n m < mode_places
    unfolding tick
    held-there n m v w = omega (arith, (state-stays kept state may).held n v m w, kept.mode_count.most)

    shown-same : (n : ℕ) → n < node_places → (t : ℕ) → t < task_places → shown_after k s i n t ≡ shown_after k' s i n t
    unfolding shown_after own_shows other_shows
    shown-same n v t w =
        let home = home-there t w in
        rw (
          message-same t (held_after k s n (k.task_home t)) s.clock (held-there n (k.task_home t) v home),
          held_same n (k.task_home t) home,
          ends_same t w,
          home-node t w,
          landed-same n t w,
          same.task_home t w,
        )

    taken-same : (t : ℕ) → t < task_places → is_taken k s i t ≡ is_taken k' s i t
    unfolding is_taken
    taken-same t w =
        sent-same k.pair_start k'.pair_start same.pair_start t (s.clock % k.period) (mode_after s i (k.task_home t))
        (new-mode-there (k.task_home t) (home-there t w))
        ∙ rw (same.task_home t w, same.period)

    full-same : (t : ℕ) → t < task_places → full_after k s i t ≡ full_after k' s i t
    unfolding full_after
    full-same t w = rw (starts-same t, taken-same t w)

    tick-same : Agree (tick k s i) (tick k' s i)
    unfolding tick
    tick-same =
        record {
          clock = ap (one_on s.clock) same.period;
          mode = λ m w. refl;
          age = age-same;
          given = given-same;
          out = λ t w. refl;
          landed = λ n v t w. landed-same n t w;
          shown = shown-same;
          held = λ n v m w. held_same n m w;
          full = full-same;
          load = λ t w. load_same t;
          mode_byte = byte-same;
        }

  pub step_kept : SameAnswer (step k s i) (step k' s i)
  unfolding step
  step_kept = rw (← judged-same) (go (judged_tick k s i) refl)
    where
      go : (r : Res (Unit {0})) → judged_tick k s i ≡ r
          → SameAnswer (◌>>◌ r (ok (record { row = started k s; state = tick k s i })))
          (◌>>◌ r (ok (record { row = started k' s; state = tick k' s i })))
      go (ok u) e = accepted started-same (tick-same ((judged_exact k s i).says e))
      go (refuse n p) e = refused n p

-- on any station value
pub ticked-kept : {k k' : Kept} → SameKept k k' → (s : State) (i : Input) → SameAnswer (ticked k s i) (ticked k' s i)
unfolding ticked
ticked-kept {k} {k'} same s i = rw (← in_range-kept same s) (go (in_range k s) refl)
  where
    go : (c : Bool) → in_range k s ≡ c → SameAnswer (◌>>◌ (unless 40 0 c) (step k s i)) (◌>>◌ (unless 40 0 c) (step k' s i))
    go true e = let h = (range_tests k s).says e in step_kept same s i h.0 h.1
    go false e = refused 40 0

-- stations follow one another by what either keeps
pub follows-kept : {k k' : Kept} {s after : State} {history : List Input} → SameKept k k' → Follows k s history after → Follows k' s history after
follows-kept same begun = begun
follows-kept same (next {before = before} i f e agree) =
    let other = answer_ok (ticked-kept same before i) e in
    next i (follows-kept same f) other.is (agree_trans agree other.state)
