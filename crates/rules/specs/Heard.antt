-- What other nodes hear of a task: where some runs have no message it is not the one board's value at every tick. A history is the list of
-- ticks so far, the newest first, as for the one board.
use Rattle.std.specs.Prelude.{Bool, cond, ◌&&◌, List, [], ◌∷◌, ℕ}
use Rattle.std.proofs.Math.Option.{Option}
use Rattle.rules.specs.Plan.{Plan}
use Rattle.rules.specs.Traffic.{Traffic, has}
use Rattle.rules.specs.Playing.{Input, period_in}
use Rattle.rules.specs.Station.{one_on}
use Rattle.rules.specs.OneBoard.{mode_now, period_now, run_ends, result_within}
use Rattle.rules.specs.History.{home_in, first_in}

-- The bus time of the tick behind this past (rule 8.6): 0 at the first, then 1 to P and again from 1.
unfoldable pub bus_time : ℕ → List Input → ℕ
bus_time period [] = 0
bus_time period (i ∷ past) = one_on (bus_time period past) period

-- `home`, `run` and `first` as for the one board; `period` is P, and `sent μ t d` says that mode μ has a message of task t with deadline d.
module _ (home : ℕ → ℕ) (run : ℕ → ℕ → ℕ) (first : ℕ → ℕ) (period : ℕ) (sent : ℕ → ℕ → ℕ → Bool) where
  -- A run of the task ends at the tick behind this past, and its mode has a message with that deadline.
  unfoldable pub is_heard : ℕ → List Input → Bool
  is_heard t past = run_ends home run first t past && sent (mode_now home run first (home t) past) t (bus_time period past)

  -- the result of the last run of the task that had ended and whose message is sent, or zero
  unfoldable pub heard : ℕ → List Input → ℕ
  heard t [] = 0
  heard t (i ∷ past) =
      cond (is_heard t past) (result_within home run first t (period_now home run first t past) (i ∷ past)) (heard t past)

-- The same of a plan's task, by what the plan sends.
unfoldable pub heard_value : Plan → Traffic → (ℕ → Option ℕ) → ℕ → List Input → ℕ
heard_value p traffic starting t history =
    heard (home_in p) (period_in p) (first_in starting) traffic.period (has traffic.messages) t history
