-- docs/RULES.md, section 8: what a station keeps, its state, refusals 41 to 44, the six steps (a) to (f) of a tick, `begin` (readings
-- 22 to 34). All are numbers, or functions of the place of a node, module, mode, task, row or pair; a period of 0 means none.
use Rattle.std.specs.Prelude.{Bool, true, false, cond, not, ◌&&◌, ◌||◌, List, eqb, leb, ltb, length, get_or, ℕ, ◌+◌, ◌-◌, ◌%◌, ◌^◌}
use Rattle.std.proofs.Math.Option
use Rattle.std.proofs.Math.Option.{Option, none, some}
use Rattle.laws.specs.Res.{Res, ok, ◌>>=◌, ◌>>◌, at}
use Rattle.laws.specs.Lists.{any, first_bad, first_with, up_to}
use Rattle.laws.specs.Numbers.{divides}
use Rattle.rules.specs.Plan.{the_mode, the_task}
use Rattle.rules.specs.Traffic.{module_node, is_sending, has}
use Rattle.rules.specs.Frames.{Pair, ControlRow}
use Rattle.rules.specs.LatestRelease.{no_pair}
use Rattle.rules.specs.Table.{DataRow}
use Rattle.rules.specs.Checker.{control_at, Row, row_holding, Passed, check_files}
use Rattle.rules.specs.Playing.{module_places, task_places, Input, is_given, period_in}

-- Rule 8.2, what it copies: of the plan the modules, modes and tasks, the runs (`run mode task` is the invocation's period, or 0) and
-- which modules are sending; of the table P, the control rows, and by number the pairs: each with start and stop of the row that it
-- rides in, and with the modes that have its message (`pair_has pair mode`).
pub record Kept : Type 0 where
  pub modules : ℕ
  pub modes : ℕ
  pub tasks : ℕ
  pub period : ℕ
  pub module_node : ℕ → ℕ
  pub sends : ℕ → Bool
  pub mode_home : ℕ → ℕ
  pub mode_period : ℕ → ℕ
  pub mode_switch : ℕ → ℕ
  pub task_home : ℕ → ℕ
  pub task_size : ℕ → ℕ
  pub task_worst : ℕ → ℕ
  pub run : ℕ → ℕ → ℕ
  pub controls : ℕ
  pub control_node : ℕ → ℕ
  pub control_start : ℕ → ℕ
  pub control_stop : ℕ → ℕ
  pub pairs : ℕ
  pub pair_task : ℕ → ℕ
  pub pair_deadline : ℕ → ℕ
  pub pair_start : ℕ → ℕ
  pub pair_stop : ℕ → ℕ
  pub pair_has : ℕ → ℕ → Bool

-- the pair with this number, and the row that it rides in
unfoldable pub passed_pair : Passed → ℕ → Pair
passed_pair c q = get_or c.layout.pairs q no_pair

unfoldable pub passed_row : Passed → ℕ → Row
passed_row c q = row_holding c.table.rows (passed_pair c q)

unfoldable pub kept_of : Passed → Kept
kept_of c =
    let p = c.plan in
    let control = c.table.control in
    record {
      modules = length p.modules;
      modes = length p.modes;
      tasks = length p.tasks;
      period = c.layout.period;
      module_node = module_node p;
      sends = is_sending p;
      mode_home = λ μ. (the_mode p μ).home;
      mode_period = λ μ. (the_mode p μ).period;
      mode_switch = λ μ. (the_mode p μ).switch;
      task_home = λ t. (the_task p t).home;
      task_size = λ t. (the_task p t).size;
      task_worst = λ t. (the_task p t).worst;
      run = period_in p;
      controls = length control;
      control_node = λ r. (control_at control r).node;
      control_start = λ r. (control_at control r).start;
      control_stop = λ r. (control_at control r).stop;
      pairs = length c.layout.pairs;
      pair_task = λ q. (passed_pair c q).task;
      pair_deadline = λ q. (passed_pair c q).deadline;
      pair_start = λ q. (passed_row c q).start;
      pair_stop = λ q. (passed_row c q).stop;
      pair_has = λ q μ. has c.traffic.messages μ (passed_pair c q).task (passed_pair c q).deadline;
    }

-- The state before a tick. Time by rule 8.6: `clock` is the bus time of the tick to come, 0 before the first and then 1 to P; `age`
-- by module the time since its mode began, 0 at the first tick and then 1 to the mode's period. `given` by task: the run has had its
-- result. `landed` and `shown` by node and task; `held` by node and module, the mode byte that the node holds. On the bus: `full` and
-- `load` by task, whether the data frame has a value of the task and which; `mode_byte`, the control frame's by module.
pub record State : Type 0 where
  pub clock : ℕ
  pub mode : ℕ → ℕ
  pub age : ℕ → ℕ
  pub given : ℕ → Bool
  pub out : ℕ → ℕ
  pub landed : ℕ → ℕ → ℕ
  pub shown : ℕ → ℕ → ℕ
  pub held : ℕ → ℕ → ℕ
  pub full : ℕ → Bool
  pub load : ℕ → ℕ
  pub mode_byte : ℕ → ℕ

-- Rule 8.4: before the first tick every place, out-box and mode byte is zero.
unfoldable pub state_at_start : (ℕ → Option ℕ) → State
state_at_start starting =
    record {
      clock = 0;
      mode = λ m. Option.get_or (starting m) 0;
      age = λ m. 0;
      given = λ t. false;
      out = λ t. 0;
      landed = λ n t. 0;
      shown = λ n t. 0;
      held = λ n m. 0;
      full = λ t. false;
      load = λ t. 0;
      mode_byte = λ m. 0;
    }

-- the node of a task
unfoldable pub home_node : Kept → ℕ → ℕ
home_node k t = k.module_node (k.task_home t)

-- the period of the task's invocation in the mode that runs, and the time since that mode began
unfoldable pub run_period : Kept → State → ℕ → ℕ
run_period k s t = k.run (s.mode (k.task_home t)) t

unfoldable pub task_age : Kept → State → ℕ → ℕ
task_age k s t = s.age (k.task_home t)

-- The run's age, 1 to its period: the tick of a release is the last of the run before (reading 24).
unfoldable pub run_age : Kept → State → ℕ → ℕ
run_age k s t = (task_age k s t - 1) % run_period k s t + 1

-- a run of the task is under way; at the first tick none is (reading 23)
unfoldable pub is_running : Kept → State → ℕ → Bool
is_running k s t = ltb 0 (run_period k s t) && ltb 0 (task_age k s t)

-- Rule 8.8: a run takes one result, at an age of 1 to its worst time.
unfoldable pub is_awaited : Kept → State → ℕ → Bool
is_awaited k s t =
    (ltb t k.tasks && is_running k s t) && (not (s.given t) && leb (run_age k s t) (k.task_worst t))

-- Refusal 41 (rule 8.41): a result comes only where one is awaited.
unfoldable pub result_awaited : Kept → State → Input → ℕ → Bool
result_awaited k s i t = not (is_given (i.result t)) || is_awaited k s t

-- Refusal 42 (rule 8.42): a result fits into the bytes of its task's message.
abbrev pub fits_in : ℕ → Option ℕ → Bool
fits_in size none = true
fits_in size (some v) = ltb v (256 ^ size)

unfoldable pub result_fits : Kept → Input → ℕ → Bool
result_fits k i t = fits_in (k.task_size t) (i.result t)

-- Refusal 43 (rule 8.43): at age w, neither before nor later, the run has had its result or gets it now (reading 24).
unfoldable pub is_last_chance : Kept → State → ℕ → Bool
is_last_chance k s t = (ltb t k.tasks && is_running k s t) && eqb (run_age k s t) (k.task_worst t)

unfoldable pub result_in_time : Kept → State → Input → ℕ → Bool
result_in_time k s i t = not (is_last_chance k s t) || (s.given t || is_given (i.result t))

-- Refusal 44 (rule 8.44): a mode that is given is one of the module's own, and the present mode is a whole number of its switch periods
-- old. This is asked also where the present mode is named (reading 33).
unfoldable pub is_mode_of : Kept → ℕ → ℕ → Bool
is_mode_of k m μ = ltb m k.modules && (ltb μ k.modes && eqb (k.mode_home μ) m)

unfoldable pub may_switch : Kept → State → ℕ → Bool
may_switch k s m = divides (k.mode_switch (s.mode m)) (s.age m)

abbrev pub may_take : Kept → State → ℕ → Option ℕ → Bool
may_take k s m none = true
may_take k s m (some μ) = is_mode_of k m μ && may_switch k s m

unfoldable pub change_allowed : Kept → State → Input → ℕ → Bool
change_allowed k s i m = may_take k s m (i.change m)

-- Rule 8.9: each number over all places before the next, at the lowest, all by the state before the tick (reading 26).
unfoldable pub judged_tick : Kept → State → Input → Res (Unit {0})
judged_tick k s i = do
  at 41 0 (first_bad (result_awaited k s i) (up_to task_places))
  at 42 0 (first_bad (result_fits k i) (up_to task_places))
  at 43 0 (first_bad (result_in_time k s i) (up_to task_places))
  at 44 0 (first_bad (change_allowed k s i) (up_to module_places))

-- (a), rule 8.11: a result goes into the out-box.
unfoldable pub out_after : State → Input → ℕ → ℕ
out_after s i t = Option.get_or (i.result t) (s.out t)

-- the lowest of so many rows that has this time
unfoldable pub has_time : (ℕ → ℕ) → ℕ → ℕ → Bool
has_time times now r = eqb (times r) now

unfoldable pub row_with : (ℕ → ℕ) → ℕ → ℕ → Option ℕ
row_with times count now = first_with (has_time times now) (up_to count)

-- a pair of the task has this time; some pair of it has
unfoldable pub is_at : Kept → (ℕ → ℕ) → ℕ → ℕ → ℕ → Bool
is_at k times t now q = eqb (k.pair_task q) t && eqb (times q) now

unfoldable pub some_at : Kept → (ℕ → ℕ) → ℕ → ℕ → Bool
some_at k times t now = any (is_at k times t now) (up_to k.pairs)

-- such a pair has a message in this mode
unfoldable pub is_sent_at : Kept → (ℕ → ℕ) → ℕ → ℕ → ℕ → ℕ → Bool
is_sent_at k times t now μ q = is_at k times t now q && k.pair_has q μ

unfoldable pub some_sent_at : Kept → (ℕ → ℕ) → ℕ → ℕ → ℕ → Bool
some_sent_at k times t now μ = any (is_sent_at k times t now μ) (up_to k.pairs)

-- (b), rule 8.12, of a data frame: a value lands on every node but the sender's; an empty frame changes nothing.
unfoldable pub lands_on : Kept → State → ℕ → ℕ → Bool
lands_on k s n t = some_at k k.pair_stop t s.clock && (s.full t && not (eqb (home_node k t) n))

unfoldable pub landed_after : Kept → State → ℕ → ℕ → ℕ
landed_after k s n t = cond (lands_on k s n t) (s.load t) (s.landed n t)

-- (b), of a control frame: the bytes of its node's sending modules land on every other node.
unfoldable pub is_byte_of : Kept → ℕ → ℕ → Bool
is_byte_of k m r = k.sends m && eqb (k.module_node m) (k.control_node r)

abbrev pub held_by : Kept → State → ℕ → ℕ → Option ℕ → ℕ
held_by k s n m none = s.held n m
held_by k s n m (some r) = cond (is_byte_of k m r && not (eqb (k.module_node m) n)) (s.mode_byte m) (s.held n m)

unfoldable pub held_after : Kept → State → ℕ → ℕ → ℕ
held_after k s n m = held_by k s n m (row_with k.control_stop k.controls s.clock)

-- (c), rule 8.13: a run of the task ends at this tick, in the mode that runs (reading 30).
unfoldable pub ends_now : Kept → State → ℕ → Bool
ends_now k s t = is_running k s t && divides (run_period k s t) (task_age k s t)

-- Rule 8.17: a message of the task in this mode has this deadline (reading 30).
unfoldable pub has_message : Kept → ℕ → ℕ → ℕ → Bool
has_message k t μ deadline = some_sent_at k k.pair_deadline t deadline μ

-- (c): where a run ends, the out-box is shown on the task's own node; elsewhere the landed value, if by the mode byte that the node holds
-- there is a message with this deadline.
unfoldable pub own_shows : Kept → State → ℕ → ℕ → Bool
own_shows k s n t = ends_now k s t && eqb (home_node k t) n

unfoldable pub other_shows : Kept → State → ℕ → ℕ → Bool
other_shows k s n t = ends_now k s t && has_message k t (held_after k s n (k.task_home t)) s.clock

unfoldable pub shown_after : Kept → State → Input → ℕ → ℕ → ℕ
shown_after k s i n t =
    cond (own_shows k s n t) (out_after s i t)
    (cond (other_shows k s n t) (landed_after k s n t) (s.shown n t))

-- (d), rule 8.14: a mode that was given runs from now on.
unfoldable pub mode_after : State → Input → ℕ → ℕ
mode_after s i m = Option.get_or (i.change m) (s.mode m)

-- one tick on, from 1 to a period and again from 1
unfoldable pub one_on : ℕ → ℕ → ℕ
one_on now period = cond (ltb now period) (now + 1) 1

unfoldable pub age_after : Kept → State → Input → ℕ → ℕ
age_after k s i m = cond (is_given (i.change m)) 1 (one_on (s.age m) (k.mode_period (s.mode m)))

-- A run has had its result; where a run ends or the mode changes, the next has not.
unfoldable pub given_after : Kept → State → Input → ℕ → Bool
given_after k s i t =
    not (ends_now k s t || is_given (i.change (k.task_home t))) && (s.given t || is_given (i.result t))

-- (e), rule 8.15: what is read are the values that `shown_after` gives. Nothing changes.

-- (f), rule 8.16: the rows that start at this tick; P is time 0 of the next cycle. A control frame takes the modes after (d).
unfoldable pub starting_control : Kept → State → Option ℕ
starting_control k s = row_with k.control_start k.controls (s.clock % k.period)

unfoldable pub starting_pair : Kept → State → Option ℕ
starting_pair k s = row_with k.pair_start k.pairs (s.clock % k.period)

abbrev pub mode_byte_by : Kept → State → Input → ℕ → Option ℕ → ℕ
mode_byte_by k s i m none = s.mode_byte m
mode_byte_by k s i m (some r) = cond (is_byte_of k m r) (mode_after s i m) (s.mode_byte m)

unfoldable pub mode_byte_after : Kept → State → Input → ℕ → ℕ
mode_byte_after k s i m = mode_byte_by k s i m (starting_control k s)

-- (f): a data frame takes the out-box of a task if the task's mode after (d) has the message of a pair of it; otherwise it has no value
-- of this task.
unfoldable pub starts_now : Kept → State → ℕ → Bool
starts_now k s t = some_at k k.pair_start t (s.clock % k.period)

unfoldable pub is_taken : Kept → State → Input → ℕ → Bool
is_taken k s i t = some_sent_at k k.pair_start t (s.clock % k.period) (mode_after s i (k.task_home t))

unfoldable pub full_after : Kept → State → Input → ℕ → Bool
full_after k s i t = cond (starts_now k s t) (is_taken k s i t) (s.full t)

unfoldable pub load_after : Kept → State → Input → ℕ → ℕ
load_after k s i t = cond (starts_now k s t) (out_after s i t) (s.load t)

-- The steps (a) to (f), at every tick, time 0 included.
unfoldable pub tick : Kept → State → Input → State
tick k s i =
    record {
      clock = one_on s.clock k.period;
      mode = mode_after s i;
      age = age_after k s i;
      given = given_after k s i;
      out = out_after s i;
      landed = landed_after k s;
      shown = shown_after k s i;
      held = held_after k s;
      full = full_after k s i;
      load = load_after k s i;
      mode_byte = mode_byte_after k s i;
    }

-- Rule 8.18, what an accepted tick answers: the row that starts at it, or that none does (reading 34); `Ticked` has the state beside it.
pub data Started : Type 0 where
  control : ControlRow → Started
  message : DataRow → Started
  nothing : Started

unfoldable pub kept_control : Kept → ℕ → ControlRow
kept_control k r = record { node = k.control_node r; start = k.control_start r; stop = k.control_stop r }

unfoldable pub kept_data : Kept → ℕ → DataRow
kept_data k q =
    record { task = k.pair_task q; deadline = k.pair_deadline q; start = k.pair_start q; stop = k.pair_stop q }

abbrev pub started_by : Kept → Option ℕ → Option ℕ → Started
started_by k (some r) d = control (kept_control k r)
started_by k none (some q) = message (kept_data k q)
started_by k none none = nothing

unfoldable pub started : Kept → State → Started
started k s = started_by k (starting_control k s) (starting_pair k s)

pub record Ticked : Type 0 where
  pub row : Started
  pub state : State

unfoldable pub step : Kept → State → Input → Res Ticked
step k s i = do
  judged_tick k s i
  ok (record { row = started k s; state = tick k s i })

-- Refusal 40 of a beginning (rule 8.40): a module's place holds a mode of its own, and a place behind the modules holds nothing.
abbrev pub holds_mode_of : Kept → ℕ → Option ℕ → Bool
holds_mode_of k m none = not (ltb m k.modules)
holds_mode_of k m (some μ) = is_mode_of k m μ

unfoldable pub starts_well : Kept → (ℕ → Option ℕ) → ℕ → Bool
starts_well k starting m = holds_mode_of k m (starting m)

pub record Begun : Type 0 where
  pub kept : Kept
  pub state : State

-- Rule 8.1: the checker's answer first, then the starting places.
unfoldable pub begin : List ℕ → List ℕ → (ℕ → Option ℕ) → Res Begun
begin plan table starting = do
  c ← check_files plan table
  at 40 0 (first_bad (starts_well (kept_of c) starting) (up_to module_places))
  ok (record { kept = kept_of c; state = state_at_start starting })
