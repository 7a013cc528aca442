-- The marks of the first tasks are the front of the table (`any_front`).
use mathlib.Core.Path.{sym, ◌∙◌}
use mathlib.Core.Bool.{Bool, false}
use native.Mathlib.Omega.{arith}
use Rattle.payloads.specs.Tests.{flag_at}
use Rattle.payloads.proofs.Scans.{any_front}
use Rattle.payloads.proofs.some_bus_task.Goals as goal

pub returns : goal.returns
unfolding flag_at
returns c = c.some_set.ensures ∙ sym (any_front (λ (b : Bool). b) c.args.tasks false c.args.count (omega arith))
