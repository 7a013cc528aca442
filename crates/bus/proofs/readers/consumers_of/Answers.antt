-- What `mark` promises, of connections as they are seen (`marked_seen`).
use mathlib.Core.Path.{refl}
use mathlib.Core.Bool.{false}
use Rattle.std.proofs.Common.{rules}
use Rattle.plan.specs.Memory.{connection_seen}
use Rattle.rules.specs.Readers.{leads_to}
use Rattle.bus.specs.Readers.{leads_from}
use Rattle.bus.proofs.Tables.{no_mark, all_alike}
use Rattle.bus.proofs.Marking.{marked_seen, if_mark}
use Rattle.bus.proofs.readers.consumers_of.Goals as goal

pub returns : goal.returns
unfolding leads_from leads_to connection_seen
returns c =
    marked_seen connection_seen (leads_to c.args.t) no_mark c.connections.ensures.things (all_alike no_mark false (λ k. refl))
    (c.mark.ensures _ (record { told = λ i d r w said k. search (rules, if_mark) }))
