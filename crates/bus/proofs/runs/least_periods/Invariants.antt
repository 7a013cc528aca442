-- Invariant: the table is that of the first i invocations (`least_among`); each turn is `leasts_turn`, the end `take_all`.
use mathlib.Core.Path.{◌≡◌}
use lib.ListN.{take}
use Rattle.plan.specs.Memory.{seen}
use Rattle.bus.specs.Senders.{by_number}
use Rattle.bus.proofs.Thinning.{least_among}
use Rattle.bus.proofs.runs.least_periods.Given as goal

abbrev pub invariant-loop-invocation : goal.invariant-loop-invocation
invariant-loop-invocation l = (l.leasts ≡ by_number (least_among (seen l.fn.p) (take l.invocation-index (seen l.fn.p).invocations)))
