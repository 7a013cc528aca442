-- What a station keeps of a plan, of its line and of the starts that a table gives to its pairs, in the station's arrays.
use Rattle.std.specs.Prelude.{Bool, ◌&&◌, List, ltb, length, get_or, replicate, ℕ, ◌+◌, ◌*◌, ◌/◌, ◌%◌, ◌^◌, ◌≤◌, ◌<◌}
use Rattle.laws.specs.Lists.{tab}
use Rattle.laws.specs.Loops.{stores}
use Rattle.laws.specs.Numbers.{divides}
use Rattle.places.specs.Bits.{bits_of}
use Rattle.places.specs.Flags.{flag_bytes}
use Rattle.rules.specs.Limits.{most_modules, most_modes, most_tasks, most_invocations, most_frames}
use Rattle.rules.specs.Plan.{Plan, Invocation, the_mode, the_task}
use Rattle.rules.specs.Traffic.{module_node, is_sending}
use Rattle.rules.specs.Playing.{period_among}
use Rattle.rules.specs.Readers.{is_read_by, readers_of}
use Rattle.bus.specs.Readers.{readers_laid, readers_seen}
use Rattle.line.specs.declared.Line.{Line}
use Rattle.station.specs.Memory.{not_begun}
use Rattle.stationrefusals.specs.declared.Modules.{Modules}
use Rattle.stationrefusals.specs.declared.Modes.{Modes}
use Rattle.stationrefusals.specs.declared.Tasks.{Tasks}
use Rattle.stationrefusals.specs.declared.Controls.{Controls}
use Rattle.station.specs.declared.Station.{Station}

-- by number of module, mode and task
unfoldable pub home_of : Plan → ℕ → ℕ
home_of p μ = (the_mode p μ).home

unfoldable pub period_of : Plan → ℕ → ℕ
period_of p μ = (the_mode p μ).period

unfoldable pub switch_of : Plan → ℕ → ℕ
switch_of p μ = (the_mode p μ).switch

unfoldable pub task_home : Plan → ℕ → ℕ
task_home p t = (the_task p t).home

unfoldable pub task_size : Plan → ℕ → ℕ
task_size p t = (the_task p t).size

unfoldable pub task_worst : Plan → ℕ → ℕ
task_worst p t = (the_task p t).worst

unfoldable pub modules_of : Plan → Modules
modules_of p =
    record { count = length p.modules; sites = tab (module_node p) 0 most_modules; sending = tab (flag_bytes (is_sending p)) 0 most_modules }

unfoldable pub modes_of : Plan → Modes
modes_of p =
    record {
      count = length p.modes;
      homes = tab (home_of p) 0 most_modes;
      periods = tab (period_of p) 0 most_modes;
      switches = tab (switch_of p) 0 most_modes;
    }

unfoldable pub tasks_of : Plan → Tasks
tasks_of p =
    record {
      count = length p.tasks;
      homes = tab (task_home p) 0 most_tasks;
      sizes = tab (task_size p) 0 most_tasks;
      worsts = tab (task_worst p) 0 most_tasks;
    }

-- the period of mode j / most_tasks and task j % most_tasks, had the plan only these invocations; and of all its invocations
unfoldable pub run_among : Plan → List Invocation → ℕ → ℕ
run_among p is j = period_among p is (j / most_tasks) (j % most_tasks)

unfoldable pub runs_among : Plan → List Invocation → List ℕ
runs_among p is = tab (run_among p is) 0 (most_modes * most_tasks)

unfoldable pub runs_of : Plan → List ℕ
runs_of p = runs_among p p.invocations

-- the control rows
unfoldable pub controls_of : Line → Controls
controls_of l = record { count = l.controls; nodes = l.control_nodes; starts = l.control_starts; stops = l.control_stops }

-- by pair, zeros behind the pairs
unfoldable pub by_pair : ℕ → (ℕ → ℕ) → List ℕ
by_pair pairs f = stores (replicate most_frames 0) f pairs

-- The row of a pair stops the time of a message of its task behind its start.
unfoldable pub stop_at : List ℕ → List ℕ → List ℕ → ℕ → ℕ
stop_at starts tasks times q = get_or starts q 0 + get_or times (get_or tasks q 0) 0

-- the stops have 32 bits
unfoldable pub StopsFit : ℕ → List ℕ → List ℕ → List ℕ → Type 0
StopsFit pairs starts tasks times = (q : ℕ) → q < pairs → stop_at starts tasks times q < 2 ^ 32

-- so many readers at most has every task for which a count stands there
unfoldable pub FewReaders : List ℕ → Type 0
FewReaders counts = (t : ℕ) → get_or counts t 0 ≤ most_invocations

-- A mode has the message of a pair exactly when the task's period in the mode is above 0 and divides the deadline, and the message is read:
-- `counts` and `periods` hold the readers of each task.
unfoldable pub has_message : List ℕ → List ℕ → List ℕ → ℕ → ℕ → ℕ → Bool
has_message runs counts periods t deadline μ =
    let period = get_or runs (μ * most_tasks + t) 0 in
    ltb 0 period && (divides period deadline && is_read_by (readers_seen counts periods t) period deadline)

-- the modes that have the message of a pair, as bits
unfoldable pub modes_at : List ℕ → List ℕ → List ℕ → List ℕ → List ℕ → ℕ → ℕ
modes_at runs counts periods tasks deadlines q =
    bits_of (has_message runs counts periods (get_or tasks q 0) (get_or deadlines q 0)) most_modes

-- the same of a plan, in its edition
unfoldable pub modes_in : Plan → List ℕ → List ℕ → ℕ → ℕ
modes_in p tasks deadlines =
    modes_at (runs_of p) (readers_laid (readers_of p)).counts (readers_laid (readers_of p)).periods tasks deadlines

-- all that is kept, and nothing played; the arrays are by pair
unfoldable pub kept_from : Plan → Line → List ℕ → List ℕ → List ℕ → Station
kept_from p l tasks deadlines starts =
    record {
      fixed =
          record {
            modules = modules_of p;
            modes = modes_of p;
            tasks = tasks_of p;
            controls = controls_of l;
            period = l.period;
            pairs = l.frames;
          };
      runs = runs_of p;
      pair_tasks = tasks;
      pair_deadlines = deadlines;
      pair_starts = starts;
      pair_stops = by_pair l.frames (stop_at starts tasks l.times);
      pair_modes = by_pair l.frames (modes_in p tasks deadlines);
      play = not_begun.play;
      nodes = not_begun.nodes;
    }
