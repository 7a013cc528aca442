-- Invariant: the messages of the first t tasks fit (`all_on`). One that does not ends the scan (`all_here`); else `all_end`.
use mathlib.Core.Path.{◌≡◌}
use mathlib.Core.Bool.{true}
use Rattle.laws.specs.Lists.{all, up_to}
use Rattle.plan.specs.Memory.{seen}
use Rattle.payloads.specs.Tests.{message_keeps}
use Rattle.payloads.proofs.messages_fit.Given as goal

abbrev pub invariant-loop-t : goal.invariant-loop-t
invariant-loop-t l = all (message_keeps l.tasks (seen l.fn.p)) (up_to l.t) ≡ true
