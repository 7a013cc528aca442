-- Demand 3 on another node, for one task and one node: what the bus carries and where it has landed. Everything is told by the bus time of
-- the tick to come; a mode of the sender begins only where a cycle does. What the node shows is the result of the last run that had ended
-- and whose message is sent; where every run has its message this is the one board's value.
use mathlib.Core.Path.{◌≡◌, refl, sym, ap, ◌∙◌}
use mathlib.Core.Bool.{Bool, true, false}
use mathlib.Core.List.{List, [], ◌∷◌}
use mathlib.Core.Logic.{◌⊎◌, inl, inr}
use mathlib.Core.Option.{Option, some}
use native.Mathlib.Nat.{not-suc-le-zero, dvd_trans, dvd-sub, le_of_dvd, eq-or-lt_of_le, eq-zero-or-pos, mod-eq_of_lt}
use native.Mathlib.Omega.{arith}
use Prim.Native.Nat.{ℕ, ◌+◌, ◌-◌, ◌%◌, ◌≤◌, ◌<◌, ◌∣◌}
use Rattle.laws.proofs.Lists.{tested}
use Rattle.laws.proofs.Orders.{compare_case}
use Rattle.laws.proofs.Runs.{within_run, same-run, same-multiple, run-deadline}
use Rattle.laws.proofs.Tests.{by_same}
use Rattle.rules.specs.Playing.{Input}
use Rattle.rules.specs.Station.{Kept, State, state_at_start, home_node, run_period, task_age, run_age, row_with, some_sent_at}
use Rattle.rules.specs.Station.{ends_now, has_message, starting_control, tick}
use Rattle.rules.specs.History.{first_in}
use Rattle.rules.specs.Heard.{bus_time, heard}
use Rattle.rules.specs.Obeys.{MayTick}
use Rattle.rules.specs.OneBoard.{mode_now}
use Rattle.rules.proofs.TransparentTick.{
  Ending,
  ending_tests,
  PairOf,
  PairAt,
  SentAt,
  sent_tests,
  Messages,
  message_tests,
  clock_on,
  mode-kept,
  out-kept,
  shown-other,
  shown-unsent,
  shown-still,
  row-found,
  held_found,
  held-either,
  byte-found,
  byte-either,
  landed-found,
  landed-either,
  full-found,
  full-none,
  load_found,
  load-none,
  starting-control,
  run-age,
  value-ends,
  value-still,
  heard-ends,
  heard-unsent,
  heard-still,
}
use Rattle.rules.proofs.TransparentModes.{ModeOf, FairCycle, Beats, cycle_case, still}
use Rattle.rules.proofs.TransparentOwn.{FairTask, board, board_result, Own, period-is, ends_same, result-at-end, quiet_given}

-- The rows of two pairs do not overlap: they are one row, or one lies behind the other.
pub data NoOverlap (k : Kept) (q r : ℕ) : Type 0 where
  one_row : k.pair_start q ≡ k.pair_start r → k.pair_stop q ≡ k.pair_stop r → NoOverlap k q r
  before : k.pair_stop q ≤ k.pair_start r → NoOverlap k q r
  behind : k.pair_stop r ≤ k.pair_start q → NoOverlap k q r

-- A message of the pair in the mode: the mode invokes the task, a run ends at the deadline, and the pair's row starts when the run's worst
-- time is gone, or later.
pub record RunOfPair (k : Kept) (t q μ : ℕ) : Type 0 where
  pub invoked : 0 < k.run μ t
  pub whole : k.run μ t ∣ k.pair_deadline q
  pub released : k.pair_deadline q + k.task_worst t ≤ k.pair_start q + k.run μ t

-- What a passed table keeps for a bus task. P divides what the modes of its module are timed by. Its node has a control row, and the control
-- rows stand one behind the other. The rows in which its pairs ride do not overlap; each starts behind the node's control row and stops by
-- the deadlines of its pairs. Each message is that of a run, and is released when its row starts. How many pairs a row holds, how pairs
-- are numbered, and whether every run has a message is not asked.
pub record FairBus (k : Kept) (t : ℕ) : Type 0 where
  pub cycles : FairCycle k (k.task_home t)
  pub runs : (μ : ℕ) → ModeOf k (k.task_home t) μ → 0 < k.run μ t → k.run μ t ∣ k.period
  pub sends : k.sends (k.task_home t) ≡ true
  pub control : ℕ
  pub control_there : control < k.controls
  pub control_node : home_node k t ≡ k.control_node control
  pub control_lasts : (r : ℕ) → r < k.controls → k.control_start r < k.control_stop r
  pub controls_apart : (j r : ℕ) → j < r → r < k.controls → k.control_stop j ≤ k.control_start r
  pub lasts : (q : ℕ) → PairOf k t q → k.pair_start q < k.pair_stop q
  pub apart : (q r : ℕ) → PairOf k t q → PairOf k t r → NoOverlap k q r
  pub behind_control : (q : ℕ) → PairOf k t q → k.control_stop control ≤ k.pair_start q
  pub in_time : (q : ℕ) → PairOf k t q → k.pair_stop q ≤ k.pair_deadline q
  pub of_run : (q μ : ℕ) → PairOf k t q → ModeOf k (k.task_home t) μ → k.pair_has q μ ≡ true → RunOfPair k t q μ

-- Every run of the task has its message: in each mode of its module that invokes it, one with each deadline of a cycle at which a run ends.
abbrev pub EveryRunIsSent : Kept → ℕ → Type 0
EveryRunIsSent k t =
    (μ deadline : ℕ) → ModeOf k (k.task_home t) μ → 0 < k.run μ t → k.run μ t ∣ deadline → 0 < deadline → deadline ≤ k.period
    → has_message k t μ deadline ≡ true

-- ---- rows one behind the other

module _ (start stop : ℕ → ℕ) (count : ℕ) (lasts : (r : ℕ) → r < count → start r < stop r)
    (apart : (j r : ℕ) → j < r → r < count → stop j ≤ start r) where
  -- no two start, and no two stop, at one time
  pub starts_first : (r : ℕ) → r < count → row_with start count (start r) ≡ some r
  starts_first r w =
      row-found start count (start r) r (record { there = w; time = refl })
      (λ j l e. absurd (omega (arith, apart j r l w, lasts j (omega arith))))

  pub stops_first : (r : ℕ) → r < count → row_with stop count (stop r) ≡ some r
  stops_first r w =
      row-found stop count (stop r) r (record { there = w; time = refl })
      (λ j l e. absurd (omega (arith, apart j r l w, lasts r w)))

module _ (k : Kept) (t : ℕ) (bus : FairBus k t) where
  -- two pairs of the task that start at one time stop at one time
  same_stop : (q r : ℕ) → PairOf k t q → PairOf k t r → k.pair_start q ≡ k.pair_start r → k.pair_stop q ≡ k.pair_stop r
  same_stop q r a b e = which (bus.apart q r a b)
    where
      which : NoOverlap k q r → k.pair_stop q ≡ k.pair_stop r
      which (one_row _ same) = same
      which (before l) = absurd (omega (arith, bus.lasts q a))
      which (behind l) = absurd (omega (arith, bus.lasts r b))

  -- none starts while another is under way
  none-starts : (q now : ℕ) → PairOf k t q → k.pair_start q < now → now < k.pair_stop q → PairAt k k.pair_start t now → ⊥
  none-starts q now a l u h = which (bus.apart q h.pair a h.known)
    where
      which : NoOverlap k q h.pair → ⊥
      which (one_row e _) = absurd (omega (arith, h.time))
      which (before b) = absurd (omega (arith, h.time))
      which (behind b) = absurd (omega (arith, h.time, bus.lasts h.pair h.known))

  -- Of the pairs in a row a mode has one message of the task at most, so one value by task is enough: the later of two would be released
  -- when the earlier one is due, and the row stops by then.
  not-before : (q r μ : ℕ) → PairOf k t q → PairOf k t r → ModeOf k (k.task_home t) μ → k.pair_has q μ ≡ true → k.pair_has r μ ≡ true
      → k.pair_start q ≡ k.pair_start r → k.pair_deadline q < k.pair_deadline r → ⊥
  not-before q r μ a b own x y e l =
      let f = bus.of_run q μ a own x in
      let g = bus.of_run r μ b own y in
      let gap : 0 < k.pair_deadline r - k.pair_deadline q = omega arith in
      let run : k.run μ t ≤ k.pair_deadline r - k.pair_deadline q = le_of_dvd gap (dvd-sub (k.run μ t) g.whole f.whole) in
      absurd (omega (arith, g.released, bus.lasts q a, bus.in_time q a))

  pub one-message : (q r μ : ℕ) → PairOf k t q → PairOf k t r → ModeOf k (k.task_home t) μ → k.pair_has q μ ≡ true → k.pair_has r μ ≡ true
      → k.pair_start q ≡ k.pair_start r → k.pair_deadline q ≡ k.pair_deadline r
  one-message q r μ a b own x y e =
      compare_case (k.pair_deadline q) (k.pair_deadline r) (λ l _. absurd (not-before q r μ a b own x y e l)) (λ same _. same)
      (λ l _. absurd (not-before r q μ b a own y x (sym e) l))

-- the messages that the pairs tell of, as `heard` asks for them
abbrev pub sent_in : Kept → ℕ → ℕ → ℕ → Bool
sent_in k μ t deadline = has_message k t μ deadline

-- a pair of which the running mode has a message
pub record Due (k : Kept) (t : ℕ) (s : State) (q : ℕ) : Type 0 where
  pub known : PairOf k t q
  pub has : k.pair_has q (s.mode (k.task_home t)) ≡ true

-- The invariant, of the bus. The control frame's byte is the running mode's from the control row's start on. While a row of the task is on
-- the bus it is full if the running mode has a message of one of its pairs, and carries the out-box.
pub record Carried (k : Kept) (t control : ℕ) (s : State) : Type 0 where
  pub byte : k.control_start control < s.clock → s.mode_byte (k.task_home t) ≡ s.mode (k.task_home t)
  pub full : (q : ℕ) → PairOf k t q → k.pair_start q < s.clock → s.clock ≤ k.pair_stop q
      → s.full t ≡ some_sent_at k k.pair_start t (k.pair_start q) (s.mode (k.task_home t))
  pub load : (q : ℕ) → PairOf k t q → k.pair_start q < s.clock → s.clock ≤ k.pair_stop q → s.full t ≡ true → s.load t ≡ s.out t

module _ (k : Kept) (first : ℕ → ℕ) (t : ℕ) where
  -- what other nodes hear of the task
  abbrev pub heard_in : List Input → ℕ
  heard_in past = heard k.task_home k.run first k.period (sent_in k) t past

  -- The invariant, of another node. The byte that it holds is the running mode's from the control row's stop on. Behind a row's stop and up
  -- to the deadline of a pair that is due the out-box has landed. It shows what it hears of.
  pub record Landed (n control : ℕ) (s : State) (past : List Input) : Type 0 where
    pub held : k.control_stop control < s.clock → s.held n (k.task_home t) ≡ s.mode (k.task_home t)
    pub landed : (q : ℕ) → Due k t s q → s.clock ≤ k.pair_deadline q → k.pair_stop q < s.clock → s.landed n t ≡ s.out t
    pub shows : s.shown n t ≡ heard_in past

  -- ---- bus time and runs

  module _ (bus : FairBus k t) (s : State) (past : List Input) (own : Own k first t s past) (beats : Beats k (k.task_home t) s past) where
    pub run-aligned : 0 < run_period k s t → run_period k s t ∣ task_age k s t - s.clock
    unfolding run_period task_age
    run-aligned p = dvd_trans (run_period k s t) (bus.runs (s.mode (k.task_home t)) own.timed.known p) beats.aligned

    -- a run that ends does so at a multiple of its period in bus time
    pub ends_in_cycle : Ending k s t → run_period k s t ∣ s.clock
    unfolding task_age
    ends_in_cycle e = same-multiple (run_period k s t) (task_age k s t) s.clock beats.beat (run-aligned e.invoked) e.whole

    pub started-clock : 0 < task_age k s t → 0 < s.clock
    unfolding task_age
    started-clock a = begun (eq-zero-or-pos s.clock)
      where
        begun : (s.clock ≡ 0) ⊎ (0 < s.clock) → 0 < s.clock
        begun (inl z) = absurd (omega (arith, beats.unbegun z))
        begun (inr p) = p

    run_of_clock : 0 < s.clock → 0 < run_period k s t → run_age k s t ≡ within_run s.clock (run_period k s t)
    unfolding task_age
    run_of_clock c p =
        run-age k s t ∙ same-run (run_period k s t) (task_age k s t) s.clock c beats.beat (run-aligned p)

  -- ---- the bus

  module _ (fair : FairTask k t) (bus : FairBus k t) (s : State) (i : Input) (past : List Input) (may : MayTick k s i)
      (own : Own k first t s past) (beats : Beats k (k.task_home t) s past) (h : Carried k t bus.control s) where
    run_of : (q : ℕ) → Due k t s q → RunOfPair k t q (s.mode (k.task_home t))
    run_of q d = bus.of_run q (s.mode (k.task_home t)) d.known own.timed.known d.has

    -- a row that has started carries a result that was given
    given-sent : (q : ℕ) → Due k t s q → k.pair_start q < s.clock → s.clock ≤ k.pair_deadline q → s.given t ≡ true
    unfolding run_period task_age
    given-sent q d a b = which (tested (s.given t))
      where
        late : s.given t ≡ false → ⊥
        late g =
            let r = run_of q d in
            let c : 0 < s.clock = omega arith in
            let w : run_age k s t ≤ k.task_worst t = own.waits r.invoked (omega (arith, beats.beat)) g in
            let e : within_run s.clock (run_period k s t) + k.pair_deadline q ≡ s.clock + run_period k s t =
            run-deadline (run_period k s t) s.clock (k.pair_deadline q) r.invoked c r.whole b (omega (arith, r.released, fair.worst)) in
            omega (arith, r.released, run_of_clock bus s past own beats c r.invoked)

        which : (s.given t ≡ true) ⊎ (s.given t ≡ false) → s.given t ≡ true
        which (inl g) = g
        which (inr g) = absurd (late g)

    out-still : s.given t ≡ true → (tick k s i).out t ≡ s.out t
    out-still g = out-kept k s i t (quiet_given k first t fair s i past may own g)

    -- a full row has a pair that is due
    due_in_row : (q : ℕ) → PairOf k t q → k.pair_start q < s.clock → s.clock ≤ k.pair_stop q → s.full t ≡ true
        → SentAt k k.pair_start t (k.pair_start q) (s.mode (k.task_home t))
    due_in_row q w a b f =
        (sent_tests k k.pair_start t (k.pair_start q) (s.mode (k.task_home t))).says (sym (h.full q w a b) ∙ f)

    full-due : (q : ℕ) → Due k t s q → k.pair_start q < s.clock → s.clock ≤ k.pair_stop q → s.full t ≡ true
    full-due q d a b =
        h.full q d.known a b
        ∙ (sent_tests k k.pair_start t (k.pair_start q) (s.mode (k.task_home t))).passes
        (record { pair = q; known = d.known; time = refl; has = d.has })

    -- within a cycle

    module _ (low : 0 < s.clock) (high : s.clock < k.period) where
      same-mode : (tick k s i).mode (k.task_home t) ≡ s.mode (k.task_home t)
      same-mode = mode-kept k s i (k.task_home t) (still k first (k.task_home t) fair.home bus.cycles s i past may own.timed beats low high)

      clock-within : (tick k s i).clock ≡ s.clock + 1
      clock-within = clock_on k s i high

      bus-time : s.clock % k.period ≡ s.clock
      bus-time = mod-eq_of_lt high

      byte-within : k.control_start bus.control < (tick k s i).clock → (tick k s i).mode_byte (k.task_home t) ≡ (tick k s i).mode (k.task_home t)
      unfolding home_node
      byte-within l =
          let b : k.control_start bus.control ≤ s.clock = omega (arith, clock-within) in
          which (eq-or-lt_of_le b)
        where
          starts : k.control_start bus.control ≡ s.clock → starting_control k s ≡ some bus.control
          starts e =
              starting-control k s s.clock bus-time
              ∙ rw (← e) (starts_first k.control_start k.control_stop k.controls bus.control_lasts bus.controls_apart bus.control bus.control_there)

          which : (k.control_start bus.control ≡ s.clock) ⊎ (k.control_start bus.control < s.clock)
              → (tick k s i).mode_byte (k.task_home t) ≡ (tick k s i).mode (k.task_home t)
          which (inl e) = byte-found k s i (k.task_home t) bus.control (starts e) bus.sends bus.control_node
          which (inr b) = byte-either k s i (k.task_home t) (λ e. e ∙ h.byte b ∙ sym same-mode) (λ e. e)

      -- a pair of the task starts now, or is under way and none starts
      pair_case : {C : Type 0} (q : ℕ) → PairOf k t q → k.pair_start q < (tick k s i).clock → (tick k s i).clock ≤ k.pair_stop q
          → (k.pair_start q ≡ s.clock → C)
          → ((PairAt k k.pair_start t s.clock → ⊥) → k.pair_start q < s.clock → s.clock ≤ k.pair_stop q → C) → C
      pair_case {C} q w a b starts goes =
          let c : k.pair_start q ≤ s.clock = omega (arith, clock-within) in
          which (eq-or-lt_of_le c)
        where
          which : (k.pair_start q ≡ s.clock) ⊎ (k.pair_start q < s.clock) → C
          which (inl e) = starts e
          which (inr l) = goes (none-starts k t bus q s.clock w l (omega (arith, clock-within))) l (omega (arith, clock-within))

      full-within : (q : ℕ) → PairOf k t q → k.pair_start q < (tick k s i).clock → (tick k s i).clock ≤ k.pair_stop q
          → (tick k s i).full t ≡ some_sent_at k k.pair_start t (k.pair_start q) ((tick k s i).mode (k.task_home t))
      full-within q w a b =
          pair_case q w a b
          (λ e. full-found k s i t (k.pair_start q) (bus-time ∙ sym e) (record { pair = q; known = w; time = refl }))
          (λ quiet l u. full-none k s i t s.clock bus-time quiet ∙ h.full q w l u
          ∙ ap (λ (μ : ℕ). some_sent_at k k.pair_start t (k.pair_start q) μ) (sym same-mode))

      load-within : (q : ℕ) → PairOf k t q → k.pair_start q < (tick k s i).clock → (tick k s i).clock ≤ k.pair_stop q
          → (tick k s i).full t ≡ true → (tick k s i).load t ≡ (tick k s i).out t
      load-within q w a b f =
          pair_case q w a b
          (λ e. load_found k s i t (k.pair_start q) (bus-time ∙ sym e) (record { pair = q; known = w; time = refl }))
          (λ quiet l u. carries quiet l u (sym (full-none k s i t s.clock bus-time quiet) ∙ f))
        where
          carries : (PairAt k k.pair_start t s.clock → ⊥) → k.pair_start q < s.clock → s.clock ≤ k.pair_stop q → s.full t ≡ true
              → (tick k s i).load t ≡ (tick k s i).out t
          carries quiet l u g =
              let x = due_in_row q w l u g in
              let d : Due k t s x.pair = record { known = x.known; has = x.has } in
              let stop : k.pair_stop x.pair ≡ k.pair_stop q = same_stop k t bus x.pair q x.known w x.time in
              load-none k s i t s.clock bus-time quiet ∙ h.load q w l u g
              ∙ sym (out-still (given-sent x.pair d (omega (arith, x.time)) (omega (arith, bus.in_time x.pair x.known))))

      carried-within : Carried k t bus.control (tick k s i)
      carried-within = record { byte = byte-within; full = full-within; load = load-within }

    -- where a cycle begins

    control-later : 0 < k.control_stop bus.control
    control-later = omega (arith, bus.control_lasts bus.control bus.control_there)

    pair-later : (q : ℕ) → PairOf k t q → 0 < k.pair_start q
    pair-later q w = omega (arith, control-later, bus.behind_control q w)

    module _ (turn : s.clock % k.period ≡ 0) (one : (tick k s i).clock ≡ 1) where
      byte_anew : k.control_start bus.control < (tick k s i).clock → (tick k s i).mode_byte (k.task_home t) ≡ (tick k s i).mode (k.task_home t)
      unfolding home_node
      byte_anew l =
          let z : k.control_start bus.control ≡ 0 = omega (arith, one) in
          byte-found k s i (k.task_home t) bus.control
          (starting-control k s 0 turn
          ∙ rw (← z) (starts_first k.control_start k.control_stop k.controls bus.control_lasts bus.controls_apart bus.control bus.control_there))
          bus.sends
          bus.control_node

      carried_anew : Carried k t bus.control (tick k s i)
      carried_anew =
          record {
            byte = byte_anew;
            full = λ q w l u. absurd (omega (arith, one, pair-later q w));
            load = λ q w l u f. absurd (omega (arith, one, pair-later q w));
          }

    pub carried_on : Carried k t bus.control (tick k s i)
    carried_on =
        cycle_case k first (k.task_home t) fair.home bus.cycles s i past may own.timed beats carried-within
        (λ turn one whole. carried_anew turn one)

    -- ---- another node

    module _ (n : ℕ) (away : home_node k t ≡ n → ⊥) (there : Landed n bus.control s past) where
      landed_now : (q : ℕ) → Due k t s q → s.clock ≤ k.pair_deadline q → k.pair_stop q ≤ s.clock → (tick k s i).landed n t ≡ s.out t
      landed_now q d c b = which (eq-or-lt_of_le b)
        where
          which : (k.pair_stop q ≡ s.clock) ⊎ (k.pair_stop q < s.clock) → (tick k s i).landed n t ≡ s.out t
          which (inl e) =
              let a : k.pair_start q < s.clock = omega (arith, bus.lasts q d.known) in
              let f : s.full t ≡ true = full-due q d a (omega arith) in
              landed-found k s i n t (record { pair = q; known = d.known; time = e }) f away ∙ h.load q d.known a (omega arith) f
          which (inr l) =
              landed-either k s i n t (λ e. e ∙ there.landed q d c l)
              (λ x f e. e ∙ h.load x.pair x.known (omega (arith, x.time, bus.lasts x.pair x.known)) (omega (arith, x.time)) f)

      held-now : k.control_stop bus.control ≤ s.clock → (tick k s i).held n (k.task_home t) ≡ s.mode (k.task_home t)
      unfolding home_node
      held-now b = which (eq-or-lt_of_le b)
        where
          lasting : k.control_start bus.control < k.control_stop bus.control
          lasting = bus.control_lasts bus.control bus.control_there

          stops : k.control_stop bus.control ≡ s.clock → row_with k.control_stop k.controls s.clock ≡ some bus.control
          stops e =
              rw (← e)
              (stops_first k.control_start k.control_stop k.controls bus.control_lasts bus.controls_apart bus.control bus.control_there)

          which : (k.control_stop bus.control ≡ s.clock) ⊎ (k.control_stop bus.control < s.clock)
              → (tick k s i).held n (k.task_home t) ≡ s.mode (k.task_home t)
          which (inl e) =
              held_found k s i (k.task_home t) n bus.control (stops e) bus.sends bus.control_node away ∙ h.byte (omega (arith, lasting))
          which (inr l) = held-either k s i (k.task_home t) n (λ e. e ∙ there.held l) (λ e. e ∙ h.byte (omega (arith, lasting)))

      -- ---- (c): a pair with this deadline has stopped behind the control row, so the node asks the running mode

      held-at : PairAt k k.pair_deadline t s.clock → (tick k s i).held n (k.task_home t) ≡ s.mode (k.task_home t)
      held-at x =
          held-now
          (omega (arith, x.time, bus.behind_control x.pair x.known, bus.lasts x.pair x.known, bus.in_time x.pair x.known))

      asks-same : has_message k t ((tick k s i).held n (k.task_home t)) s.clock ≡ has_message k t (s.mode (k.task_home t)) s.clock
      asks-same =
          by_same (message_tests k t ((tick k s i).held n (k.task_home t)) s.clock) (message_tests k t (s.mode (k.task_home t)) s.clock)
          (λ x. rw (held-at (record { pair = x.pair; known = x.known; time = x.time })) at x)
          (λ x. rw (held-at (record { pair = x.pair; known = x.known; time = x.time })) x)

      -- where a run ends that has its message, the run's result has landed
      shown_ending : ends_now k s t ≡ true → has_message k t (s.mode (k.task_home t)) s.clock ≡ true → (tick k s i).shown n t ≡ (tick k s i).out t
      shown_ending q sent =
          let x : Messages k t (s.mode (k.task_home t)) s.clock = (message_tests k t (s.mode (k.task_home t)) s.clock).says sent in
          let d : Due k t s x.pair = record { known = x.known; has = x.has } in
          let stops : k.pair_stop x.pair ≤ s.clock = omega (arith, bus.in_time x.pair x.known, x.time) in
          let starts : k.pair_start x.pair < s.clock = omega (arith, bus.lasts x.pair x.known) in
          shown-other k s i t n q away (asks-same ∙ sent)
          ∙ landed_now x.pair d (omega (arith, x.time)) stops
          ∙ sym (out-still (given-sent x.pair d starts (omega (arith, x.time))))

      -- as the history tells it
      sent-same : has_message k t (mode_now k.task_home k.run first (k.task_home t) past) (bus_time k.period past)
          ≡ has_message k t (s.mode (k.task_home t)) s.clock
      sent-same = rw (own.timed.mode, beats.time)

      shows_now : (tick k s i).shown n t ≡ heard_in (i ∷ past)
      shows_now = which (tested (ends_now k s t)) (tested (has_message k t (s.mode (k.task_home t)) s.clock))
        where
          which : (ends_now k s t ≡ true) ⊎ (ends_now k s t ≡ false)
              → (has_message k t (s.mode (k.task_home t)) s.clock ≡ true) ⊎ (has_message k t (s.mode (k.task_home t)) s.clock ≡ false)
              → (tick k s i).shown n t ≡ heard_in (i ∷ past)
          which (inl q) (inl sent) =
              shown_ending q sent ∙ result-at-end k first t fair s i past may own ((ending_tests k s t).says q)
              ∙ ap (λ (x : ℕ). board_result k first t x (i ∷ past)) (sym (period-is k first t fair s past own.timed))
              ∙ sym (heard-ends k.task_home k.run first k.period (sent_in k) i past t (ends_same k first t fair s past own.timed ∙ q) (sent-same ∙ sent))
          which (inl q) (inr unsent) =
              shown-unsent k s i t n away (asks-same ∙ unsent) ∙ there.shows
              ∙ sym (heard-unsent k.task_home k.run first k.period (sent_in k) i past t (sent-same ∙ unsent))
          which (inr q) _ =
              shown-still k s i t n q ∙ there.shows
              ∙ sym (heard-still k.task_home k.run first k.period (sent_in k) i past t (ends_same k first t fair s past own.timed ∙ q))

      landed-within : (low : 0 < s.clock) (high : s.clock < k.period) (q : ℕ) → Due k t (tick k s i) q → (tick k s i).clock ≤ k.pair_deadline q
          → k.pair_stop q < (tick k s i).clock → (tick k s i).landed n t ≡ (tick k s i).out t
      landed-within low high q d a b =
          let now : Due k t s q = record { known = d.known; has = rw (same-mode low high) at d.has } in
          let c : s.clock ≤ k.pair_deadline q = omega (arith, clock-within low high) in
          let e : k.pair_stop q ≤ s.clock = omega (arith, clock-within low high) in
          landed_now q now c e ∙ sym (out-still (given-sent q now (omega (arith, bus.lasts q d.known)) c))

      pub landed_on : Landed n bus.control (tick k s i) (i ∷ past)
      landed_on =
          cycle_case k first (k.task_home t) fair.home bus.cycles s i past may own.timed beats
          (λ low high. record {
            held = λ l. held-now (omega (arith, clock-within low high)) ∙ sym (same-mode low high);
            landed = landed-within low high;
            shows = shows_now;
          })
          (λ turn one whole. record {
            held = λ l. absurd (omega (arith, one, control-later));
            landed = λ q d l u. absurd (omega (arith, one, pair-later q d.known, bus.lasts q d.known));
            shows = shows_now;
          })

  -- ---- where every run has its message

  pub heard_on : (fair : FairTask k t) (bus : FairBus k t) → EveryRunIsSent k t → (s : State) (i : Input) (past : List Input)
      → Own k first t s past → Beats k (k.task_home t) s past → heard_in past ≡ board k first t past
      → heard_in (i ∷ past) ≡ board k first t (i ∷ past)
  unfolding run_period
  heard_on fair bus every s i past own beats h = which (tested (ends_now k s t))
    where
      sent : Ending k s t → has_message k t (mode_now k.task_home k.run first (k.task_home t) past) (bus_time k.period past) ≡ true
      sent e =
          rw (← own.timed.mode, ← beats.time)
          (every (s.mode (k.task_home t)) s.clock own.timed.known e.invoked (ends_in_cycle bus s past own beats e)
          (started-clock bus s past own beats e.released) beats.in_cycle)

      which : (ends_now k s t ≡ true) ⊎ (ends_now k s t ≡ false) → heard_in (i ∷ past) ≡ board k first t (i ∷ past)
      which (inl q) =
          let ends = ends_same k first t fair s past own.timed ∙ q in
          heard-ends k.task_home k.run first k.period (sent_in k) i past t ends (sent ((ending_tests k s t).says q))
          ∙ sym (value-ends k.task_home k.run first i past t ends)
      which (inr q) =
          let ends = ends_same k first t fair s past own.timed ∙ q in
          heard-still k.task_home k.run first k.period (sent_in k) i past t ends ∙ h
          ∙ sym (value-still k.task_home k.run first i past t ends)

-- at the beginning
pub carried-start : (k : Kept) (starting : ℕ → Option ℕ) (t control : ℕ) → Carried k t control (state_at_start starting)
unfolding state_at_start
carried-start k starting t control =
    record {
      byte = λ l. absurd (not-suc-le-zero l);
      full = λ q w l u. absurd (not-suc-le-zero l);
      load = λ q w l u f. absurd (not-suc-le-zero l);
    }

pub landed-start : (k : Kept) (starting : ℕ → Option ℕ) (t n control : ℕ) → Landed k (first_in starting) t n control (state_at_start starting) []
unfolding state_at_start heard
landed-start k starting t n control =
    record {
      held = λ l. absurd (not-suc-le-zero l);
      landed = λ q d l u. absurd (not-suc-le-zero u);
      shows = refl;
    }
