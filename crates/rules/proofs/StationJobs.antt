-- Job K, scaled from 60,000 ticks to 60 so that it is computed, and entries that job K lets through: a table whose rows stop early,
-- a mode change while a node holds the old mode byte, a message that is not read, each of refusals 40 to 44.
use mathlib.Core.Bool.{Bool, true, false, cond, ◌&&◌}
use mathlib.Core.List.{List, [], ◌∷◌}
use mathlib.Core.Option.{Option, none, some}
use lib.Dec.{T, eqb}
use lib.ListN.{get_or}
use Prim.Native.Nat.{ℕ, zero, suc, ◌+◌}
use Rattle.laws.specs.Res.{Res, ok, refuse}
use Rattle.laws.specs.Lists.{all, tab}
use Rattle.rules.specs.Records.{Rec}
use Rattle.rules.specs.Checker.{name_of, same_control, same_name}
use Rattle.rules.specs.Jobs.{is_refused, rec, file}
use Rattle.rules.specs.Playing.{Input, is_run, period_among, period_in}
use Rattle.rules.specs.Station.{Kept, State, Started, control, message, nothing, Ticked, Begun, passed_pair, passed_row, kept_of}
use Rattle.rules.specs.Station.{state_at_start, home_node, run_period, task_age, run_age, is_running, is_awaited, result_awaited}
use Rattle.rules.specs.Station.{result_fits, is_last_chance, result_in_time, is_mode_of, may_switch, change_allowed, judged_tick}
use Rattle.rules.specs.Station.{out_after, has_time, row_with, is_at, some_at, is_sent_at, some_sent_at, lands_on, landed_after}
use Rattle.rules.specs.Station.{is_byte_of, held_after, ends_now, has_message, own_shows, other_shows, shown_after, mode_after}
use Rattle.rules.specs.Station.{one_on, age_after, given_after, starting_control, starting_pair, mode_byte_after, starts_now, is_taken}
use Rattle.rules.specs.Station.{full_after, load_after, tick, kept_control, kept_data, started, step, starts_well, begin}
use Rattle.rules.specs.StationRange.{is_between, counts_in_range, module_in_range, mode_in_range, task_in_range, run_in_range, runs_in_range, control_in_range, pair_in_range, pairs_in_range, kept_in_range, play_in_range, is_value, box_in_range, place_in_range, byte_in_range, node_in_range, state_in_range, in_range, ticked}
use Rattle.rules.specs.OneBoard.{mode_now, since_mode, period_now, run_ends, result_within, value}
use Rattle.rules.proofs.Jobs.{everything}

-- Job A with a period of 60, run periods of 30 and 20 and a worst time of 3, and a mode c that invokes nothing, on a bus where a
-- message takes 4 ticks, a control frame 1, eight bits of gap 1. Task 1, on node 1, consumes task 0 with this rate.
plan_of : ℕ → ℕ → List ℕ
plan_of rate gap =
    file
    (rec 1 (8000 ∷ 0 ∷ 0 ∷ 254 ∷ gap ∷ 1 ∷ [])
    ∷ rec 2 (2 ∷ [])
    ∷ rec 3 (0 ∷ [])
    ∷ rec 3 (1 ∷ [])
    ∷ rec 4 (0 ∷ 60 ∷ 60 ∷ [])
    ∷ rec 4 (0 ∷ 60 ∷ 60 ∷ [])
    ∷ rec 4 (1 ∷ 60 ∷ 60 ∷ [])
    ∷ rec 4 (0 ∷ 60 ∷ 60 ∷ [])
    ∷ rec 5 (0 ∷ 4 ∷ 3 ∷ [])
    ∷ rec 5 (1 ∷ 4 ∷ 3 ∷ [])
    ∷ rec 6 (0 ∷ 0 ∷ 2 ∷ [])
    ∷ rec 6 (1 ∷ 0 ∷ 3 ∷ [])
    ∷ rec 6 (2 ∷ 1 ∷ rate ∷ [])
    ∷ rec 7 (0 ∷ 1 ∷ [])
    ∷ [])

plan_with : ℕ → List ℕ
plan_with gap = plan_of 1 gap

plan : List ℕ
plan = plan_with 8

-- a table with its four data rows, each of 4 ticks, at these starts
row : ℕ → ℕ → Rec
row deadline start = rec 18 (0 ∷ deadline ∷ start ∷ (start + 4) ∷ [])

rows : ℕ → ℕ → ℕ → ℕ → List ℕ
rows first second third fourth =
    file
    (rec 16 (60 ∷ 1 ∷ 4 ∷ [])
    ∷ rec 17 (0 ∷ 0 ∷ 1 ∷ [])
    ∷ row 20 first
    ∷ row 30 second
    ∷ row 40 third
    ∷ row 60 fourth
    ∷ [])

-- each row stops long before its deadline
early_table : List ℕ
early_table = rows 3 8 23 43

-- Numbers and lists computed before they are passed on: a state is computed once, not anew at each place and tick.
module _ {A : Type 0} where
  abbrev number : ℕ → (ℕ → A) → A
  number zero go = go zero
  number (suc n) go = go (suc n)

  abbrev truth : Bool → (Bool → A) → A
  truth true go = go true
  truth false go = go false

  numbers : List ℕ → (List ℕ → A) → A
  numbers [] go = go []
  numbers (x ∷ xs) go = number x λ y. numbers xs λ ys. go (y ∷ ys)

  truths : List Bool → (List Bool → A) → A
  truths [] go = go []
  truths (x ∷ xs) go = truth x λ y. truths xs λ ys. go (y ∷ ys)

  boards : List (List ℕ) → (List (List ℕ) → A) → A
  boards [] go = go []
  boards (x ∷ xs) go = numbers x λ y. boards xs λ ys. go (y ∷ ys)

  sheets : List (List Bool) → (List (List Bool) → A) → A
  sheets [] go = go []
  sheets (x ∷ xs) go = truths x λ y. sheets xs λ ys. go (y ∷ ys)

at : List ℕ → ℕ → ℕ
at xs k = get_or xs k 0

grid : List (List ℕ) → ℕ → ℕ → ℕ
grid xs j k = get_or (get_or xs j []) k 0

-- how many places of each thing the jobs use
places : ℕ
places = 4

listed : {A : Type 0} → (ℕ → A) → List A
unfolding places
listed f = tab f 0 places

laid : (ℕ → ℕ → ℕ) → List (List ℕ)
unfolding listed
laid f = listed λ j. listed (f j)

module _ {A : Type 0} where
  frozen : State → (State → A) → A
  frozen s go =
      number s.clock λ clock.
      numbers (listed s.mode) λ mode.
      numbers (listed s.age) λ age.
      truths (listed s.given) λ given.
      numbers (listed s.out) λ out.
      boards (laid s.landed) λ landed.
      boards (laid s.shown) λ shown.
      boards (laid s.held) λ held.
      truths (listed s.full) λ full.
      numbers (listed s.load) λ load.
      numbers (listed s.mode_byte) λ mode_byte.
      go
      (record {
        clock = clock;
        mode = at mode;
        age = at age;
        given = λ t. get_or given t false;
        out = at out;
        landed = grid landed;
        shown = grid shown;
        held = grid held;
        full = λ t. get_or full t false;
        load = at load;
        mode_byte = at mode_byte;
      })

  -- what is kept, with so many rows and pairs
  frozen_kept : Kept → (Kept → A) → A
  frozen_kept k go =
      number k.modules λ modules.
      number k.modes λ modes.
      number k.tasks λ tasks.
      number k.period λ period.
      numbers (listed k.module_node) λ module_node.
      truths (listed k.sends) λ sends.
      numbers (listed k.mode_home) λ mode_home.
      numbers (listed k.mode_period) λ mode_period.
      numbers (listed k.mode_switch) λ mode_switch.
      numbers (listed k.task_home) λ task_home.
      numbers (listed k.task_size) λ task_size.
      numbers (listed k.task_worst) λ task_worst.
      boards (laid k.run) λ run.
      number k.controls λ controls.
      numbers (tab k.control_node 0 controls) λ control_node.
      numbers (tab k.control_start 0 controls) λ control_start.
      numbers (tab k.control_stop 0 controls) λ control_stop.
      number k.pairs λ pairs.
      numbers (tab k.pair_task 0 pairs) λ pair_task.
      numbers (tab k.pair_deadline 0 pairs) λ pair_deadline.
      numbers (tab k.pair_start 0 pairs) λ pair_start.
      numbers (tab k.pair_stop 0 pairs) λ pair_stop.
      sheets (tab (λ q. listed (k.pair_has q)) 0 pairs) λ pair_has.
      go
      (record {
        modules = modules;
        modes = modes;
        tasks = tasks;
        period = period;
        module_node = at module_node;
        sends = λ m. get_or sends m false;
        mode_home = at mode_home;
        mode_period = at mode_period;
        mode_switch = at mode_switch;
        task_home = at task_home;
        task_size = at task_size;
        task_worst = at task_worst;
        run = grid run;
        controls = controls;
        control_node = at control_node;
        control_start = at control_start;
        control_stop = at control_stop;
        pairs = pairs;
        pair_task = at pair_task;
        pair_deadline = at pair_deadline;
        pair_start = at pair_start;
        pair_stop = at pair_stop;
        pair_has = λ q μ. get_or (get_or pair_has q []) μ false;
      })

-- what places are given: each a place and a number
data Filled : Type 0 where
  ◌is◌ : ℕ → ℕ → Filled

infix 75 ◌is◌
given_at : List Filled → ℕ → Option ℕ
given_at [] k = none
given_at ((j is x) ∷ ps) k = cond (eqb j k) (some x) (given_at ps k)

input_of : List Filled → List Filled → Input
input_of results changes = record { result = given_at results; change = given_at changes }

-- What is done and what is to be seen: n ticks at which nothing is given; a tick with results and changes, accepted; one that is
-- refused with a number at a place; the value that a node now shows of a task, and one board has of it; the row that the tick to come
-- starts.
data Act : Type 0 where
  quiet : ℕ → Act
  given : List Filled → List Filled → Act
  refuses : ℕ → ℕ → List Filled → List Filled → Act
  shows : ℕ → ℕ → ℕ → Act
  board : ℕ → ℕ → Act
  starts : Started → Act

same_row : Started → Started → Bool
same_row (control r) (control q) = same_control r q
same_row (message r) (message q) = same_name (name_of r) (name_of q) && (eqb r.start q.start && eqb r.stop q.stop)
same_row nothing nothing = true
same_row (control r) (message q) = false
same_row (control r) nothing = false
same_row (message r) (control q) = false
same_row (message r) nothing = false
same_row nothing (control q) = false
same_row nothing (message q) = false

answers_row : Started → Res Ticked → Bool
answers_row r (ok t) = same_row t.row r
answers_row r (refuse n p) = false

module _ (first : ℕ → ℕ) (k : Kept) where
  accepted : Input → List Input → (List Input → State → Bool) → Res Ticked → Bool
  accepted i past go (ok t) = frozen t.state (go (i ∷ past))
  accepted i past go (refuse n p) = false

  ticks : Input → List Input → (List Input → State → Bool) → State → Bool
  ticks i past go s = accepted i past go (step k s i)

  quietly : ℕ → List Input → (List Input → State → Bool) → State → Bool
  quietly zero past go = go past
  quietly (suc n) past go = ticks (input_of [] []) past λ now. quietly n now go

  act : Act → List Input → (List Input → State → Bool) → State → Bool
  act (quiet n) past go = quietly n past go
  act (given results changes) past go = ticks (input_of results changes) past go
  act (refuses n p results changes) past go = λ s. is_refused (step k s (input_of results changes)) n p && go past s
  act (shows n t v) past go = λ s. eqb (s.shown n t) v && go past s
  act (board t v) past go = λ s. eqb (value k.task_home k.run first t past) v && go past s
  act (starts r) past go = λ s. answers_row r (step k s (input_of [] [])) && go past s

  acts : List Act → List Input → State → Bool
  acts [] past s = true
  acts (a ∷ rest) past s = act a past (acts rest) s

played_from : Res Begun → List Act → Bool
played_from (ok b) todo = frozen_kept b.kept λ k. frozen b.state λ s. acts s.mode k todo [] s
played_from (refuse n p) todo = false

-- module 0 in mode a, module 1 in its mode
mode_a : ℕ → Option ℕ
mode_a = given_at (0 is 0 ∷ 1 is 2 ∷ [])

-- Rows that stop early: node 1 shows 0 at 29 and 5 at 30, though the frame landed at 12. A change at 30 is 44; at 60 it is taken,
-- and node 1, which still holds mode a's byte, shows the last message of mode a at that tick. Mode c sends nothing; mode b, from
-- 120 on, shows at 140. Then 42 and 43.
job_k : List Act
job_k =
    starts (control (record { node = 0; start = 0; stop = 1 }))
    ∷ refuses 41 0 (0 is 5 ∷ []) []
    ∷ quiet 1  -- time 0
    ∷ given (1 is 9 ∷ []) []  -- 1
    ∷ refuses 41 2 (0 is 5 ∷ 2 is 5 ∷ []) []
    ∷ given (0 is 5 ∷ []) []  -- 2
    ∷ quiet 5
    ∷ starts (message (record { task = 0; deadline = 30; start = 8; stop = 12 }))
    ∷ quiet 5  -- 12
    ∷ starts nothing
    ∷ shows 1 0 0
    ∷ quiet 17  -- 29
    ∷ shows 0 0 0
    ∷ shows 1 0 0
    ∷ board 0 0
    ∷ refuses 44 0 [] (0 is 1 ∷ [])
    ∷ quiet 1  -- 30
    ∷ shows 0 0 5
    ∷ shows 1 0 5
    ∷ board 0 5
    ∷ given (0 is 7 ∷ []) []  -- 31
    ∷ refuses 41 0 (0 is 8 ∷ []) []
    ∷ quiet 28  -- 59
    ∷ shows 1 0 5
    ∷ board 0 5
    ∷ refuses 44 0 [] (0 is 2 ∷ [])
    ∷ refuses 44 2 [] (2 is 0 ∷ [])
    ∷ given [] (0 is 3 ∷ [])  -- 60
    ∷ shows 1 0 7
    ∷ board 0 7
    ∷ refuses 41 0 (0 is 8 ∷ []) []
    ∷ given (1 is 8 ∷ []) []  -- 61
    ∷ quiet 58  -- 119
    ∷ shows 1 0 7
    ∷ given [] (0 is 1 ∷ [])  -- 120
    ∷ shows 0 1 0
    ∷ shows 1 1 8
    ∷ board 1 8
    ∷ board 0 7
    ∷ given (0 is 6 ∷ 1 is 4 ∷ []) []  -- 121
    ∷ quiet 18  -- 139
    ∷ shows 1 0 7
    ∷ board 0 7
    ∷ quiet 1  -- 140
    ∷ shows 1 0 6
    ∷ board 0 6
    ∷ refuses 42 0 (0 is 4294967296 ∷ []) []
    ∷ given (0 is 4294967295 ∷ []) []  -- 141
    ∷ quiet 19  -- 160
    ∷ shows 1 0 4294967295
    ∷ quiet 2  -- 162
    ∷ refuses 43 0 [] []
    ∷ []

-- Rows that stop at their deadlines, the last at P, where no gap is asked for.
late_table : List ℕ
late_table = rows 16 26 36 56

late_job : List Act
late_job =
    quiet 1  -- time 0
    ∷ given (0 is 5 ∷ 1 is 1 ∷ []) []  -- 1
    ∷ quiet 28  -- 29
    ∷ shows 1 0 0
    ∷ quiet 1  -- 30
    ∷ shows 1 0 5
    ∷ given (0 is 7 ∷ []) []  -- 31
    ∷ quiet 28  -- 59
    ∷ shows 1 0 5
    ∷ quiet 1  -- 60
    ∷ shows 1 0 7
    ∷ []

-- Figure 5 of the paper, scaled like job K: task 1 reads with period 30, so that of mode b's runs of 20 the message at 40 is not read and
-- has no row. Node 1 shows what one board has at the reads, 30 and 60, and at 20; from 40 on it does not, until 60.
plan_read : List ℕ
plan_read = plan_of 2 8

read_rows : ℕ → List ℕ
read_rows head =
    file (rec head (60 ∷ 1 ∷ 3 ∷ []) ∷ rec 17 (0 ∷ 0 ∷ 1 ∷ []) ∷ row 20 3 ∷ row 30 8 ∷ row 60 43 ∷ [])

mode_b : ℕ → Option ℕ
mode_b = given_at (0 is 1 ∷ 1 is 2 ∷ [])

read_job : List Act
read_job =
    quiet 1  -- time 0
    ∷ given (0 is 5 ∷ 1 is 1 ∷ []) []  -- 1
    ∷ quiet 19  -- 20
    ∷ shows 0 0 5
    ∷ shows 1 0 5
    ∷ board 0 5
    ∷ given (0 is 6 ∷ []) []  -- 21
    ∷ quiet 9  -- 30
    ∷ shows 1 0 5
    ∷ board 0 5
    ∷ given (1 is 1 ∷ []) []  -- 31
    ∷ quiet 9  -- 40
    ∷ shows 0 0 6
    ∷ shows 1 0 5
    ∷ board 0 6
    ∷ given (0 is 7 ∷ []) []  -- 41
    ∷ quiet 18  -- 59
    ∷ shows 1 0 5
    ∷ board 0 6
    ∷ quiet 1  -- 60
    ∷ shows 0 0 7
    ∷ shows 1 0 7
    ∷ board 0 7
    ∷ []

-- Refusal 40 of a beginning, and of a tick on a station that was not begun, or whose clock is above P; a begun one is in range.
zero_kept : Kept
zero_kept =
    record {
      modules = 0;
      modes = 0;
      tasks = 0;
      period = 0;
      module_node = λ m. 0;
      sends = λ m. false;
      mode_home = λ μ. 0;
      mode_period = λ μ. 0;
      mode_switch = λ μ. 0;
      task_home = λ t. 0;
      task_size = λ t. 0;
      task_worst = λ t. 0;
      run = λ μ t. 0;
      controls = 0;
      control_node = λ r. 0;
      control_start = λ r. 0;
      control_stop = λ r. 0;
      pairs = 0;
      pair_task = λ q. 0;
      pair_deadline = λ q. 0;
      pair_start = λ q. 0;
      pair_stop = λ q. 0;
      pair_has = λ q μ. false;
    }

at_time : ℕ → State → State
at_time clock s =
    record {
      clock = clock;
      mode = s.mode;
      age = s.age;
      given = s.given;
      out = s.out;
      landed = s.landed;
      shown = s.shown;
      held = s.held;
      full = s.full;
      load = s.load;
      mode_byte = s.mode_byte;
    }

tick_at : ℕ → Res Begun → Res Ticked
tick_at clock (refuse n p) = refuse n p
tick_at clock (ok b) =
    frozen_kept b.kept λ k. frozen b.state λ s. ticked k (at_time clock s) (input_of [] [])

pub jobs : List Bool
jobs =
    played_from (begin plan early_table mode_a) job_k
    ∷ played_from (begin (plan_with 0) late_table mode_a) late_job
    ∷ played_from (begin plan_read (read_rows 20) mode_b) read_job
    ∷ is_refused (begin plan_read (read_rows 16) mode_b) 21 0
    ∷ is_refused (begin plan late_table mode_a) 28 5
    ∷ is_refused (begin plan (rows 2 8 23 43) mode_a) 25 2
    ∷ is_refused (begin plan early_table (given_at (0 is 2 ∷ 1 is 2 ∷ []))) 40 0
    ∷ is_refused (begin plan early_table (given_at (0 is 3 ∷ []))) 40 1
    ∷ is_refused (begin plan early_table (given_at (0 is 0 ∷ 1 is 2 ∷ 2 is 0 ∷ []))) 40 2
    ∷ is_refused (ticked zero_kept (state_at_start λ m. none) (input_of [] [])) 40 0
    ∷ is_refused (tick_at 61 (begin plan early_table mode_a)) 40 0
    ∷ answers_row (control (record { node = 0; start = 0; stop = 1 })) (tick_at 60 (begin plan early_table mode_a))
    ∷ []

pub is_true : Bool → Bool
is_true b = b

opened : Unit {0}
unfolding everything plan_of plan_with plan row rows early_table numbers truths boards sheets at grid places listed laid frozen frozen_kept
    given_at input_of accepted same_row answers_row ticks quietly act acts played_from mode_a job_k late_table late_job plan_read read_rows mode_b read_job zero_kept at_time
    tick_at jobs is_true mode_now since_mode period_now run_ends result_within value is_run period_among period_in passed_pair passed_row
    kept_of state_at_start home_node run_period task_age run_age is_running is_awaited result_awaited result_fits is_last_chance
    result_in_time is_mode_of may_switch change_allowed judged_tick out_after has_time row_with is_at some_at is_sent_at some_sent_at lands_on
    landed_after is_byte_of held_after ends_now has_message own_shows other_shows shown_after mode_after one_on age_after given_after
    starting_control starting_pair mode_byte_after starts_now is_taken full_after load_after tick kept_control kept_data started step
    starts_well begin is_between counts_in_range module_in_range mode_in_range task_in_range run_in_range runs_in_range control_in_range
    pair_in_range pairs_in_range kept_in_range play_in_range is_value box_in_range place_in_range byte_in_range node_in_range state_in_range in_range ticked
opened = tt

-- Every entry is answered as it says.
pub station_jobs : T (all is_true jobs)
unfolding opened
station_jobs = tt
