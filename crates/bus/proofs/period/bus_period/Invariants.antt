-- Invariant: the period of the first runs; a turn is `period_more`. It fits since it divides the grid (`period-below`).
use mathlib.Core.Path.{◌≡◌}
use Rattle.laws.specs.Lists.{tab}
use Rattle.rules.specs.Traffic.{period_of_runs}
use Rattle.bus.specs.Runs.{run_at}
use Rattle.bus.proofs.period.bus_period.Given as goal

abbrev pub invariant-loop-each : goal.invariant-loop-each
invariant-loop-each l = l.period ≡ period_of_runs (tab (run_at l.fn.runs) 0 l.each-index)
