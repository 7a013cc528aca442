-- What `mark` promises, of connections as they are seen (`marked_seen`).
use mathlib.Core.Path.{refl}
use mathlib.Core.Bool.{false}
use Rattle.std.proofs.Common.{rules}
use Rattle.plan.specs.Memory.{connection_seen}
use Rattle.bus.specs.Readers.{comes_from, is_producer}
use Rattle.bus.proofs.Tables.{no_mark, all_alike}
use Rattle.bus.proofs.Marking.{marked_seen}
use Rattle.bus.proofs.readers.producers.Goals as goal

pub returns : goal.returns
unfolding is_producer comes_from connection_seen
returns c =
    marked_seen connection_seen comes_from no_mark c.connections.ensures.things (all_alike no_mark false (λ k. refl))
    (c.mark.ensures _ (record { told = λ i d r w said k. search rules }))
