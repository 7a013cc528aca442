-- Where `lacks` says yes no pair has the time, and no flag is set (`no_flags`); else it is what `tasks_from` promises.
use Rattle.stationbus.proofs.Pairs.{lacking, no_flags}
use Rattle.stationbus.proofs.tasks_at.Goals as goal

pub returns-then-lacks : goal.returns-then-lacks
returns-then-lacks c =
    let a = c.args in
    no_flags a.pair_tasks.now a.times.now a.pairs a.time.0
    (lacking a.times.now a.pairs a.time.0 c.lacks.ensures c.if-lacks.true)
