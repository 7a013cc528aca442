-- Where `lacks` says yes no pair has the time, and the words are zero (`no_words`); else it is what `modes_from` promises.
use Rattle.stationbus.proofs.Pairs.{lacking, no_words}
use Rattle.stationbus.proofs.modes_at.Goals as goal

pub returns-then-lacks : goal.returns-then-lacks
returns-then-lacks c =
    let a = c.args in
    no_words a.pair_tasks.now a.times.now a.pairs a.time.0
    (lacking a.times.now a.pairs a.time.0 c.lacks.ensures c.if-lacks.true) a.pair_modes.now
