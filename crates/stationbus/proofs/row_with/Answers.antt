-- Where `lacks` says yes no row fails the test, so none is found (`none_with`); else it is what `first_with` promises.
use Rattle.stationbus.proofs.Ways.{none_with}
use Rattle.stationbus.proofs.row_with.Goals as goal

pub returns-then-lacks : goal.returns-then-lacks
returns-then-lacks c =
    let a = c.args in
    none_with a.times.now a.count a.time.0 c.lacks.ensures c.if-lacks.true
