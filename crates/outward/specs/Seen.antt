-- What may be asked of a station: the time, a module, a task. All is zero where it has not begun, or has no such module or task.
use Rattle.std.specs.Prelude.{Bool, true, false, ◌&&◌, List, [], ltb, get_or, ℕ, ◌-◌}
use Rattle.places.specs.Flags.{flag_at, flag_byte}
use Rattle.rules.specs.Station.{Kept, State, is_awaited, run_age}
use Rattle.stationruns.specs.Runs.{run_at, awaits, since_release}
use Rattle.stationrefusals.specs.declared.Fixed.{Fixed}
use Rattle.stationrefusals.specs.declared.Play.{Play}
use Rattle.station.specs.declared.Station.{Station}
use Rattle.station.specs.Memory.{kept_of, state_of}
use Rattle.station.specs.Parts.{station_by}
use Rattle.outward.specs.declared.TimeNow.{TimeNow}
use Rattle.outward.specs.declared.ModuleNow.{ModuleNow}
use Rattle.outward.specs.declared.TaskNow.{TaskNow}

-- a station that has begun has a bus period (8.19); one that has not is zero throughout (8.3)
unfoldable pub has_begun : Kept → Bool
has_begun k = ltb 0 k.period

-- ---- the time: the bus time of the tick to come (8.6), and P

abbrev pub time_if : Bool → Kept → State → TimeNow
time_if true k s = record { begun = 1; clock = s.clock; period = k.period }
time_if false k s = record { begun = 0; clock = 0; period = 0 }

unfoldable pub time_now : Kept → State → TimeNow
time_now k s = time_if (has_begun k) k s

-- ---- a module: its node, the mode that runs, and the time since that began

abbrev pub module_if : Bool → Kept → State → ℕ → ModuleNow
module_if true k s m = record { there = 1; node = k.module_node m; mode = s.mode m; age = s.age m }
module_if false k s m = record { there = 0; node = 0; mode = 0; age = 0 }

unfoldable pub module_now : Kept → State → ℕ → ModuleNow
module_now k s m = module_if (has_begun k && ltb m k.modules) k s m

-- ---- a task: its module, whether a result is awaited (8.8), and how many ticks may still pass without it: at an age of w it must come (8.43)

abbrev pub left_of : Bool → ℕ → ℕ → ℕ
left_of true worst age = worst - age
left_of false worst age = 0

unfoldable pub ticks_left : Kept → State → ℕ → ℕ
ticks_left k s t = left_of (is_awaited k s t) (k.task_worst t) (run_age k s t)

abbrev pub task_if : Bool → Kept → State → ℕ → TaskNow
task_if true k s t =
    record { there = 1; home = k.task_home t; awaits = flag_byte (is_awaited k s t); left = ticks_left k s t }
task_if false k s t = record { there = 0; home = 0; awaits = 0; left = 0 }

unfoldable pub task_now : Kept → State → ℕ → TaskNow
task_now k s t = task_if (has_begun k && ltb t k.tasks) k s t

-- ---- the same on the parts that are looked at; no other part of a station matters

abbrev pub partly : Fixed → List ℕ → Play → Station
partly fixed runs play = station_by fixed runs [] [] [] [] [] play []

abbrev pub time_by : Fixed → Play → TimeNow
time_by fixed play = time_now (kept_of (partly fixed [] play)) (state_of (partly fixed [] play))

abbrev pub module_by : Fixed → Play → ℕ → ModuleNow
module_by fixed play m = module_now (kept_of (partly fixed [] play)) (state_of (partly fixed [] play)) m

abbrev pub task_by : Fixed → Play → List ℕ → ℕ → TaskNow
task_by fixed play runs t = task_now (kept_of (partly fixed runs play)) (state_of (partly fixed runs play)) t

abbrev pub module_at : List ℕ → List ℕ → List ℕ → ℕ → ModuleNow
module_at sites running ages m = record { there = 1; node = get_or sites m 0; mode = get_or running m 0; age = get_or ages m 0 }

abbrev pub awaits_at : ℕ → List ℕ → List ℕ → List ℕ → List ℕ → List ℕ → List ℕ → ℕ → Bool
awaits_at tasks runs modes ages homes had worsts t = awaits (run_at runs modes ages homes t) (ltb t tasks) (flag_at had t) (get_or worsts t 0)

abbrev pub task_at : ℕ → List ℕ → List ℕ → List ℕ → List ℕ → List ℕ → List ℕ → ℕ → TaskNow
task_at tasks runs modes ages homes had worsts t =
    record {
      there = 1;
      home = get_or homes t 0;
      awaits = flag_byte (awaits_at tasks runs modes ages homes had worsts t);
      left =
          left_of (awaits_at tasks runs modes ages homes had worsts t) (get_or worsts t 0) (since_release (run_at runs modes ages homes t));
    }
