-- Invariant: the columns hold the runs of the first i invocations (`Laid`); a marked task is `laid_more`, another `laid_kept`.
use lib.ListN.{take}
use Rattle.plan.specs.Memory.{seen}
use Rattle.bus.specs.Runs.{runs_among}
use Rattle.bus.proofs.Columns.{Laid}
use Rattle.bus.proofs.runs.Runs.of.Given as goal

abbrev pub invariant-loop-invocation : goal.invariant-loop-invocation
invariant-loop-invocation l = Laid (runs_among (seen l.fn.p) l.marks (take l.invocation-index (seen l.fn.p).invocations)) l.count l.modes l.tasks l.periods l.worsts
