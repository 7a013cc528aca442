-- The run of a task on arrays: its period in the mode that runs, its age, and what 41, 43 and the end of a run ask of it.
use Rattle.std.specs.Prelude.{Bool, not, ◌&&◌, List, eqb, leb, ltb, get_or, ℕ, ◌+◌, ◌-◌, ◌*◌, ◌%◌}
use Rattle.laws.specs.Numbers.{divides}
use Rattle.rules.specs.Limits.{most_tasks}
use Rattle.stationruns.specs.declared.Run.{Run}

-- the period of a task in a mode: a place for each task, mode after mode
abbrev pub period_at : List ℕ → ℕ → ℕ → ℕ
period_at runs μ t = get_or runs (μ * most_tasks + t) 0

-- the period of the task's invocation in the mode that runs, and the time since that mode began
abbrev pub run_at : List ℕ → List ℕ → List ℕ → List ℕ → ℕ → Run
run_at runs modes ages homes t =
    record {
      period = record { 0 = period_at runs (get_or modes (get_or homes t 0) 0) t };
      age = record { 0 = get_or ages (get_or homes t 0) 0 };
    }

abbrev pub under_way : Run → Bool
under_way run = ltb 0 run.period.0 && ltb 0 run.age.0

abbrev pub since_release : Run → ℕ
since_release run = (run.age.0 - 1) % run.period.0 + 1

abbrev pub awaits : Run → Bool → Bool → ℕ → Bool
awaits run in_plan given worst = (in_plan && under_way run) && (not given && leb (since_release run) worst)

abbrev pub last_chance : Run → Bool → ℕ → Bool
last_chance run in_plan worst = (in_plan && under_way run) && eqb (since_release run) worst

abbrev pub ends_run : Run → Bool
ends_run run = under_way run && divides run.period.0 run.age.0
