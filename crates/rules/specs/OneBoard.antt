-- docs/RULES.md, rule 9.3: the same history on one board, where no bus is needed. A history is the list of ticks so far, the newest
-- first; what is said of a module before a tick is said of the history behind it.
use Rattle.std.specs.Prelude.{Bool, cond, ◌&&◌, List, [], ◌∷◌, ltb, ℕ, zero, suc, ◌+◌}
use Rattle.std.proofs.Math.Option.{get_or}
use Rattle.laws.specs.Numbers.{divides}
use Rattle.rules.specs.Playing.{Input, is_given}

-- `home` is a task's module, `run` the period of a task's invocation in a mode or 0, `first` a module's starting mode.
module _ (home : ℕ → ℕ) (run : ℕ → ℕ → ℕ) (first : ℕ → ℕ) where
  -- the mode of the module that runs, and the ticks since it began
  unfoldable pub mode_now : ℕ → List Input → ℕ
  mode_now m [] = first m
  mode_now m (i ∷ past) = get_or (i.change m) (mode_now m past)

  unfoldable pub since_mode : ℕ → List Input → ℕ
  since_mode m [] = 0
  since_mode m (i ∷ past) = cond (is_given (i.change m)) 1 (since_mode m past + 1)

  -- the period of the task's runs in that mode
  unfoldable pub period_now : ℕ → List Input → ℕ
  period_now t past = run (mode_now (home t) past) t

  -- A run of the task ends at the tick behind this past: a whole number of its periods, and at least one, after its mode began.
  unfoldable pub run_ends : ℕ → List Input → Bool
  run_ends t past =
      ltb 0 (period_now t past) && (ltb 0 (since_mode (home t) past) && divides (period_now t past) (since_mode (home t) past))

  -- the result given to the task at one of the newest n ticks
  unfoldable pub result_within : ℕ → ℕ → List Input → ℕ
  result_within t zero history = 0
  result_within t (suc n) [] = 0
  result_within t (suc n) (i ∷ past) = get_or (i.result t) (result_within t n past)

  -- The result of the last run of the task that had ended, or zero: a run's results are those of the ticks of its period, its
  -- last tick included.
  unfoldable pub value : ℕ → List Input → ℕ
  value t [] = 0
  value t (i ∷ past) = cond (run_ends t past) (result_within t (period_now t past) (i ∷ past)) (value t past)
