-- What `mark` promises, of invocations as they are seen (`marked_seen`).
use mathlib.Core.Path.{refl}
use mathlib.Core.Bool.{false}
use Rattle.std.proofs.Common.{rules}
use Rattle.plan.specs.Memory.{invocation_seen}
use Rattle.rules.specs.Traffic.{invokes}
use Rattle.bus.specs.Senders.{invoked_by}
use Rattle.bus.proofs.Tables.{no_mark, all_alike}
use Rattle.bus.proofs.Marking.{marked_seen}
use Rattle.bus.proofs.senders.invoked.Goals as goal

pub returns : goal.returns
unfolding invoked_by invokes invocation_seen
returns c =
    marked_seen invocation_seen invokes no_mark c.invocations.ensures.things (all_alike no_mark false (λ k. refl))
    (c.mark.ensures _ (record { told = λ i d r w said k. search rules }))
