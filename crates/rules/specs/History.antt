-- The words of docs/RULES.md, section 9: a history of ticks that are all accepted, what one board reads off a plan and its starting
-- modes, and which nodes consume a task.
use Rattle.std.specs.Prelude.{Bool, not, ◌&&◌, List, [], ◌∷◌, eqb, ℕ}
use Rattle.std.proofs.Math.Option.{Option, get_or}
use Rattle.laws.specs.Res.{Res, ok, ◌>>=◌}
use Rattle.laws.specs.Lists.{any}
use Rattle.rules.specs.Plan.{Connection, Plan, the_task}
use Rattle.rules.specs.Traffic.{task_node}
use Rattle.rules.specs.Playing.{Input, period_in}
use Rattle.rules.specs.Station.{Kept, State, step}
use Rattle.rules.specs.OneBoard.{value}

-- The state behind a history, the newest tick first, if each of its ticks is accepted one after the other.
unfoldable pub played : Kept → State → List Input → Res State
played k s [] = ok s
played k s (i ∷ past) = do
  before ← played k s past
  ticked ← step k before i
  ok ticked.state

-- the module of a task, and the starting mode of a module
unfoldable pub home_in : Plan → ℕ → ℕ
home_in p t = (the_task p t).home

unfoldable pub first_in : (ℕ → Option ℕ) → ℕ → ℕ
first_in starting m = get_or (starting m) 0

-- The value of a task behind a history, if all tasks ran on one board (rules 9.2 and 9.3).
unfoldable pub board_value : Plan → (ℕ → Option ℕ) → ℕ → List Input → ℕ
board_value p starting t history = value (home_in p) (period_in p) (first_in starting) t history

-- Rule 9.2, the node consumes a task of another node: some connection leads from the task to one whose module is on the node, and the
-- task's own module is not.
unfoldable pub brings : Plan → ℕ → ℕ → Connection → Bool
brings p n t c = eqb c.producer t && eqb (task_node p c.consumer) n

unfoldable pub consumes : Plan → ℕ → ℕ → Bool
consumes p n t = any (brings p n t) p.connections && not (eqb (task_node p t) n)
