-- Invariant: the first t places hold their tasks' times (`stores_turn`); a kept plan's times fit (`time-small`).
use mathlib.Core.Path.{◌≡◌}
use lib.ListN.{replicate}
use Rattle.laws.specs.Loops.{stores}
use Rattle.plan.specs.Memory.{seen}
use Rattle.payloads.specs.Tests.{task_time}
use Rattle.payloads.proofs.message_times.Given as goal

abbrev pub invariant-loop-t : goal.invariant-loop-t
invariant-loop-t l = l.times ≡ stores (replicate 32 l.none) (task_time (seen l.fn.p)) l.t
