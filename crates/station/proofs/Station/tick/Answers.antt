-- Two ways past the `if`: an idle tick leaves the nodes (`idle-tick`), another changes them as told (`busy-tick`).
use borrow.Author.Tests.{not-false, not-true}
use Rattle.station.proofs.Ticking.{idle-tick, busy-tick}
use Rattle.station.proofs.Values.{station_valued}
use Rattle.station.proofs.Station.tick.Goals as goal
use Rattle.station.proofs.Station.tick.Goals.{then-not-part, else-not-part}

pub returns : goal.returns
returns c =
    let a = c.args in
    let first = c.tick_before_nodes-first.ensures a.self.nodes (station_valued a.self _ c.well_formed.0) in
    elim c.if-not-part.branch [
      | then-not-part w ↦ busy-tick first (not-true _ w.if-not-part.true) w.nodes_after_tick-shown.ensures w.self-is
      | else-not-part w ↦ idle-tick first (not-false _ w.if-not-part.false) w.self-is
    ]
