-- The runs of marked tasks, bus tasks or others, and how they stand in memory: an array for each of their numbers, zeros behind.
use Rattle.std.specs.Prelude.{Bool, false, List, map, length, get_or, ℕ}
use Rattle.laws.specs.Lists.{keep, tab}
use Rattle.laws.specs.Loops.{pad_to}
use Rattle.laws.specs.Numbers.{least}
use Rattle.rules.specs.Limits.{most_invocations}
use Rattle.rules.specs.Plan.{Plan, Invocation, the_mode, the_task}
use Rattle.rules.specs.Traffic.{Run, run_of, periods_of}
use Rattle.bus.specs.declared.runs.Runs.{Runs}

unfoldable pub mode_period : Plan → ℕ → ℕ
mode_period p μ = (the_mode p μ).period

unfoldable pub task_worst : Plan → ℕ → ℕ
task_worst p t = (the_task p t).worst

-- Rule 21.3: the least of the periods of a task's invocations.
unfoldable pub least_period : Plan → ℕ → ℕ
least_period p t = least (periods_of p t)

-- the invocation's task is marked
unfoldable pub is_marked : List Bool → Invocation → Bool
is_marked marks i = get_or marks i.task false

-- the runs of those invocations whose tasks are marked; of all invocations of the plan
unfoldable pub runs_among : Plan → List Bool → List Invocation → List Run
runs_among p marks is = map (run_of p) (keep (is_marked marks) is)

unfoldable pub runs_marked : Plan → List Bool → List Run
runs_marked p marks = runs_among p marks p.invocations

abbrev pub run_mode : Run → ℕ
run_mode r = r.mode

abbrev pub run_task : Run → ℕ
run_task r = r.task

abbrev pub run_period : Run → ℕ
run_period r = r.period

abbrev pub run_worst : Run → ℕ
run_worst r = r.worst

unfoldable pub column : (Run → ℕ) → List Run → List ℕ
column f rs = pad_to most_invocations 0 (map f rs)

unfoldable pub runs_laid : List Run → Runs
runs_laid rs =
    record {
      count = length rs;
      modes = column run_mode rs;
      tasks = column run_task rs;
      periods = column run_period rs;
      worsts = column run_worst rs;
    }

-- the runs that a struct stands for
unfoldable pub run_at : Runs → ℕ → Run
run_at r k =
    record { mode = get_or r.modes k 0; task = get_or r.tasks k 0; period = get_or r.periods k 0; worst = get_or r.worsts k 0 }

unfoldable pub runs_seen : Runs → List Run
runs_seen r = tab (run_at r) 0 r.count
