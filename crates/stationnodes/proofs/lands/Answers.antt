-- What stops is read back from the array just filled (`lands_of_stopping`).
use Rattle.stationbus.specs.Bus.{some_pair_at}
use Rattle.stationnodes.proofs.Ways.{lands_of_stopping}
use Rattle.stationnodes.proofs.lands.Goals as goal

pub returns : goal.returns
returns c =
    let a = c.args in
    lands_of_stopping (some_pair_at a.pair_tasks.now a.pair_stops.now a.pairs a.clock.0) a.full.now
    c.tasks_at-stopping.ensures c.lands_from.ensures
