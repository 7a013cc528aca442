-- Invariant: `periods` is the column of periods of the consumers' runs among the first i invocations; the other columns of `Laid` are what
-- they would be. What is laid is the task's row (`row-marked`).
use mathlib.Core.List.{List}
use Prim.Native.Nat.{ℕ}
use lib.ListN.{take}
use Rattle.plan.specs.Memory.{seen}
use Rattle.rules.specs.Traffic.{Run}
use Rattle.bus.specs.Runs.{column, run_mode, run_task, run_worst, runs_among}
use Rattle.bus.proofs.Columns.{Laid}
use Rattle.bus.proofs.readers.consumers_row.Given as goal

-- laid, with the other columns as they would be
abbrev pub Periods : List Run → ℕ → List ℕ → Type 0
Periods rs count periods = Laid rs count (column run_mode rs) (column run_task rs) periods (column run_worst rs)

abbrev pub invariant-loop-invocation : goal.invariant-loop-invocation
invariant-loop-invocation l = Periods (runs_among (seen l.fn.p) l.marks (take l.invocation-index (seen l.fn.p).invocations)) l.count l.periods
