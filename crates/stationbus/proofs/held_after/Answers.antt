-- No row: the rule gives what stood there (`stores-idle`). A row: what `held_from` stored is read back (`stores-within`).
use Rattle.laws.proofs.Stores.{stores-idle, stores-within}
use Rattle.places.specs.Spot.{spot_in}
use Rattle.stationbus.specs.Bus.{held_at, held_rule}
use borrow.Author.Rules.{rules}
use Rattle.stationbus.proofs.held_after.Goals as goal

pub returns-in-None-clause-value : goal.returns-in-None-clause-value
returns-in-None-clause-value c =
    let a = c.args in
    stores-idle a.held (held_rule a.sends.now a.nodes.now a.bytes.now a.control_nodes.now a.held (spot_in a.row)) 128 0
    (λ k w. rw c.in-None.is)

pub returns-in-Some-clause-reads : goal.returns-in-Some-clause-reads
returns-in-Some-clause-reads c =
    let a = c.args in
    rw (c.in-Some.is, ← c.entry_or.ensures, ← c.from-sender.ensures)
    (stores-within a.held (held_at a.sends.now a.nodes.now a.bytes.now c.from-sender.result a.held) 128 0 (search rules) c.held_from.ensures)
