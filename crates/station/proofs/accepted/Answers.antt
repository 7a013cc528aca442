-- For any nodes, `accepted_way` makes the promises of the five callees into the first part of the rules' tick.
use Rattle.station.proofs.Ticking.{accepted_way}
use Rattle.station.proofs.accepted.Goals as goal

pub returns : goal.returns
returns c =
    λ nodes valued. accepted_way _ _ valued c.requires c.ends_now-ends.ensures c.advance-next.ensures.value
    (rw c.from-pairs.ensures at c.lands-landing.ensures) _ _ c.advance-next.ensures.reads c.is_idle-idle.ensures
    (rw c.from-pairs.ensures at c.due_now-due.ensures)
