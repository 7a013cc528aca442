-- StationRanges: what refusal 40's range tests mean, number by number.
use mathlib.Core.Path.{◌≡◌}
use Prim.Native.Nat.{ℕ, ◌≤◌, ◌<◌, ◌^◌}
use Rattle.laws.proofs.Tests.{Tests, by_iff, by_le, by_lt, by_eq, by_and, by_implies, by_all-up_to}
use Rattle.rules.specs.Limits.{most_frames, longest_time}
use Rattle.rules.specs.Playing.{node_places, module_places, mode_places, task_places}
use Rattle.rules.specs.Station.{Kept, State}
use Rattle.rules.specs.StationRange.{
  is_between,
  counts_in_range,
  module_in_range,
  mode_in_range,
  task_in_range,
  run_in_range,
  runs_in_range,
  control_in_range,
  pair_in_range,
  pairs_in_range,
  kept_in_range,
  play_in_range,
  is_value,
  box_in_range,
  place_in_range,
  byte_in_range,
  node_in_range,
  state_in_range,
  in_range,
}
use Rattle.rules.proofs.PlanKept.{Between}

-- ---- what is within its range

pub record ModeIn (k : Kept) (μ : ℕ) : Type 0 where
  pub home : k.mode_home μ < k.modules
  pub period : k.mode_period μ ≤ longest_time
  pub switch : k.mode_switch μ ≤ longest_time
  pub there : μ < k.modes → (0 < k.mode_period μ) × (0 < k.mode_switch μ)

pub record TaskIn (k : Kept) (t : ℕ) : Type 0 where
  pub home : k.task_home t < k.modules
  pub size : k.task_size t ≤ 8
  pub worst : k.task_worst t ≤ longest_time
  pub there : t < k.tasks → (0 < k.task_size t) × (0 < k.task_worst t)

pub record ControlIn (k : Kept) (r : ℕ) : Type 0 where
  pub node : k.control_node r < node_places
  pub start : k.control_start r ≤ k.period
  pub stop : k.control_stop r ≤ k.period

pub record PairIn (k : Kept) (q : ℕ) : Type 0 where
  pub task : k.pair_task q < k.tasks
  pub deadline : k.pair_deadline q ≤ k.period
  pub start : k.pair_start q ≤ k.period
  pub stop : k.pair_stop q ≤ k.period

pub record KeptIn (k : Kept) : Type 0 where
  pub module_count : Between 1 module_places k.modules
  pub mode_count : Between 1 mode_places k.modes
  pub task_count : Between 1 task_places k.tasks
  pub period : Between 1 longest_time k.period
  pub control_count : k.controls ≤ node_places
  pub pair_count : k.pairs ≤ most_frames
  pub modules : (m : ℕ) → m < module_places → k.module_node m < node_places
  pub modes : (μ : ℕ) → μ < mode_places → ModeIn k μ
  pub tasks : (t : ℕ) → t < task_places → TaskIn k t
  pub runs : (μ : ℕ) → μ < mode_places → (t : ℕ) → t < task_places → k.run μ t ≤ k.mode_period μ
  pub controls : (r : ℕ) → r < node_places → ControlIn k r
  pub pairs : (q : ℕ) → q < k.pairs → PairIn k q

abbrev pub IsValue : ℕ → Type 0
IsValue v = v < 2 ^ 64

pub record PlayIn (k : Kept) (s : State) (m : ℕ) : Type 0 where
  pub mode : s.mode m < k.modes
  pub own : m < k.modules → k.mode_home (s.mode m) ≡ m
  pub age : s.age m ≤ k.mode_period (s.mode m)
  pub byte : s.mode_byte m < k.modes

pub record StateIn (k : Kept) (s : State) : Type 0 where
  pub clock : s.clock ≤ k.period
  pub plays : (m : ℕ) → m < module_places → PlayIn k s m
  pub boxes : (t : ℕ) → t < task_places → IsValue (s.out t)
  pub loads : (t : ℕ) → t < task_places → IsValue (s.load t)
  pub landed : (n : ℕ) → n < node_places → (t : ℕ) → t < task_places → IsValue (s.landed n t)
  pub shown : (n : ℕ) → n < node_places → (t : ℕ) → t < task_places → IsValue (s.shown n t)
  pub held : (n : ℕ) → n < node_places → (m : ℕ) → m < module_places → s.held n m < k.modes

-- ---- the tests mean it

between_tests : (low high x : ℕ) → Tests (is_between low high x) (Between low high x)
unfolding is_between
between_tests low high x =
    by_iff (by_and (by_le low x) (by_le x high)) (λ h. record { least = h.0; most = h.1 }) (λ h. (h.least, h.most))

value_tests : (v : ℕ) → Tests (is_value v) (IsValue v)
unfolding is_value
value_tests v = by_lt v (2 ^ 64)

module _ (k : Kept) where
  module_tests : (m : ℕ) → Tests (module_in_range k m) (k.module_node m < node_places)
  unfolding module_in_range
  module_tests m = by_lt (k.module_node m) node_places

  mode_tests : (μ : ℕ) → Tests (mode_in_range k μ) (ModeIn k μ)
  unfolding mode_in_range
  mode_tests μ =
      by_iff
      (by_and (by_lt (k.mode_home μ) k.modules)
      (by_and (by_and (by_le (k.mode_period μ) longest_time) (by_le (k.mode_switch μ) longest_time))
      (by_implies (by_lt μ k.modes) (by_and (by_lt 0 (k.mode_period μ)) (by_lt 0 (k.mode_switch μ))))))
      (λ h. record { home = h.0; period = h.1.0.0; switch = h.1.0.1; there = h.1.1 })
      (λ h. (h.home, ((h.period, h.switch), h.there)))

  task_tests : (t : ℕ) → Tests (task_in_range k t) (TaskIn k t)
  unfolding task_in_range
  task_tests t =
      by_iff
      (by_and (by_lt (k.task_home t) k.modules)
      (by_and (by_and (by_le (k.task_size t) 8) (by_le (k.task_worst t) longest_time))
      (by_implies (by_lt t k.tasks) (by_and (by_lt 0 (k.task_size t)) (by_lt 0 (k.task_worst t))))))
      (λ h. record { home = h.0; size = h.1.0.0; worst = h.1.0.1; there = h.1.1 })
      (λ h. (h.home, ((h.size, h.worst), h.there)))

  runs_tests : (μ : ℕ) → Tests (runs_in_range k μ) ((t : ℕ) → t < task_places → k.run μ t ≤ k.mode_period μ)
  unfolding runs_in_range run_in_range
  runs_tests μ = by_all-up_to (run_in_range k μ) task_places (λ t w. by_le (k.run μ t) (k.mode_period μ))

  control_tests : (r : ℕ) → Tests (control_in_range k r) (ControlIn k r)
  unfolding control_in_range
  control_tests r =
      by_iff (by_and (by_lt (k.control_node r) node_places) (by_and (by_le (k.control_start r) k.period) (by_le (k.control_stop r) k.period)))
      (λ h. record { node = h.0; start = h.1.0; stop = h.1.1 })
      (λ h. (h.node, (h.start, h.stop)))

  pair_tests : (q : ℕ) → Tests (pair_in_range k q) (PairIn k q)
  unfolding pair_in_range
  pair_tests q =
      by_iff
      (by_and (by_and (by_lt (k.pair_task q) k.tasks) (by_le (k.pair_deadline q) k.period))
      (by_and (by_le (k.pair_start q) k.period) (by_le (k.pair_stop q) k.period)))
      (λ h. record { task = h.0.0; deadline = h.0.1; start = h.1.0; stop = h.1.1 })
      (λ h. ((h.task, h.deadline), (h.start, h.stop)))

  pairs_tests : Tests (pairs_in_range k) ((k.pairs ≤ most_frames) × ((q : ℕ) → q < k.pairs → PairIn k q))
  unfolding pairs_in_range
  pairs_tests = by_and (by_le k.pairs most_frames) (by_all-up_to (pair_in_range k) k.pairs (λ q w. pair_tests q))

  pub kept_tests : Tests (kept_in_range k) (KeptIn k)
  unfolding kept_in_range counts_in_range
  kept_tests =
      by_iff
      (by_and
      (by_and
      (by_and
      (by_and (between_tests 1 module_places k.modules) (by_and (between_tests 1 mode_places k.modes) (between_tests 1 task_places k.tasks)))
      (by_and (between_tests 1 longest_time k.period) (by_le k.controls node_places)))
      (by_and (by_all-up_to (module_in_range k) module_places (λ m w. module_tests m)) (by_all-up_to (mode_in_range k) mode_places (λ μ w. mode_tests μ))))
      (by_and
      (by_and (by_all-up_to (task_in_range k) task_places (λ t w. task_tests t)) (by_all-up_to (runs_in_range k) mode_places (λ μ w. runs_tests μ)))
      (by_and (by_all-up_to (control_in_range k) node_places (λ r w. control_tests r)) pairs_tests)))
      (λ h. record {
        module_count = h.0.0.0.0;
        mode_count = h.0.0.0.1.0;
        task_count = h.0.0.0.1.1;
        period = h.0.0.1.0;
        control_count = h.0.0.1.1;
        pair_count = h.1.1.1.0;
        modules = h.0.1.0;
        modes = h.0.1.1;
        tasks = h.1.0.0;
        runs = h.1.0.1;
        controls = h.1.1.0;
        pairs = h.1.1.1.1;
      })
      (λ h. (
        (((h.module_count, (h.mode_count, h.task_count)), (h.period, h.control_count)), (h.modules, h.modes)),
        ((h.tasks, h.runs), (h.controls, (h.pair_count, h.pairs))),
      ))

  module _ (s : State) where
    play_tests : (m : ℕ) → Tests (play_in_range k s m) (PlayIn k s m)
    unfolding play_in_range
    play_tests m =
        by_iff
        (by_and (by_and (by_lt (s.mode m) k.modes) (by_implies (by_lt m k.modules) (by_eq (k.mode_home (s.mode m)) m)))
        (by_and (by_le (s.age m) (k.mode_period (s.mode m))) (by_lt (s.mode_byte m) k.modes)))
        (λ h. record { mode = h.0.0; own = h.0.1; age = h.1.0; byte = h.1.1 })
        (λ h. ((h.mode, h.own), (h.age, h.byte)))

    box_tests : (t : ℕ) → Tests (box_in_range s t) (IsValue (s.out t) × IsValue (s.load t))
    unfolding box_in_range
    box_tests t = by_and (value_tests (s.out t)) (value_tests (s.load t))

    place_tests : (n t : ℕ) → Tests (place_in_range s n t) (IsValue (s.landed n t) × IsValue (s.shown n t))
    unfolding place_in_range
    place_tests n t = by_and (value_tests (s.landed n t)) (value_tests (s.shown n t))

    byte_tests : (n m : ℕ) → Tests (byte_in_range k s n m) (s.held n m < k.modes)
    unfolding byte_in_range
    byte_tests n m = by_lt (s.held n m) k.modes

    node_tests : (n : ℕ)
        → Tests (node_in_range k s n)
        (((t : ℕ) → t < task_places → IsValue (s.landed n t) × IsValue (s.shown n t)) × ((m : ℕ) → m < module_places → s.held n m < k.modes))
    unfolding node_in_range
    node_tests n =
        by_and (by_all-up_to (place_in_range s n) task_places (λ t w. place_tests n t)) (by_all-up_to (byte_in_range k s n) module_places (λ m w. byte_tests n m))

    pub state_tests : Tests (state_in_range k s) (StateIn k s)
    unfolding state_in_range
    state_tests =
        by_iff
        (by_and (by_le s.clock k.period)
        (by_and (by_all-up_to (play_in_range k s) module_places (λ m w. play_tests m))
        (by_and (by_all-up_to (box_in_range s) task_places (λ t w. box_tests t)) (by_all-up_to (node_in_range k s) node_places (λ n w. node_tests n)))))
        (λ h. record {
          clock = h.0;
          plays = h.1.0;
          boxes = λ t w. (h.1.1.0 t w).0;
          loads = λ t w. (h.1.1.0 t w).1;
          landed = λ n w t v. ((h.1.1.1 n w).0 t v).0;
          shown = λ n w t v. ((h.1.1.1 n w).0 t v).1;
          held = λ n w m v. (h.1.1.1 n w).1 m v;
        })
        (λ h. (
          h.clock,
          (h.plays, (λ t w. (h.boxes t w, h.loads t w), λ n w. (λ t v. (h.landed n w t v, h.shown n w t v), λ m v. h.held n w m v))),
        ))

    -- every number that a station holds is within its range
    pub range_tests : Tests (in_range k s) (KeptIn k × StateIn k s)
    unfolding in_range
    range_tests = by_and kept_tests state_tests
