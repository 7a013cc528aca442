-- docs/RULES.md, section 8: the places, what a tick is given, and the runs of a mode. The station and the one board share these, and
-- nothing else.
use Rattle.std.specs.Prelude.{Bool, true, false, cond, ◌&&◌, List, [], ◌∷◌, eqb, ℕ}
use Rattle.std.proofs.Math.Option.{Option, none, some}
use Rattle.rules.specs.Limits.{most_nodes, most_modules, most_modes, most_tasks}
use Rattle.rules.specs.Plan.{Invocation, Plan, period_of}

-- How many places there are for nodes, modules, modes and tasks: as many as a plan may have of them (rules 8.1, 8.4, 8.5).
abbrev pub node_places : ℕ
node_places = most_nodes

abbrev pub module_places : ℕ
module_places = most_modules

abbrev pub mode_places : ℕ
mode_places = most_modes

abbrev pub task_places : ℕ
task_places = most_tasks

-- Rule 8.5: what a tick is given, by task place a result or nothing, by module place a mode or nothing.
pub record Input : Type 0 where
  pub result : ℕ → Option ℕ
  pub change : ℕ → Option ℕ

-- a place holds something
abbrev pub is_given : Option ℕ → Bool
is_given none = false
is_given (some x) = true

-- The period of the task's invocation in the mode, or 0 where the mode does not invoke it.
unfoldable pub is_run : ℕ → ℕ → Invocation → Bool
is_run μ t i = eqb i.mode μ && eqb i.task t

unfoldable pub period_among : Plan → List Invocation → ℕ → ℕ → ℕ
period_among p [] μ t = 0
period_among p (i ∷ is) μ t = cond (is_run μ t i) (period_of p i) (period_among p is μ t)

unfoldable pub period_in : Plan → ℕ → ℕ → ℕ
period_in p μ t = period_among p p.invocations μ t
