-- A pair: `full_from`'s promise, with what was gathered read back (`full-gathered`).
use Rattle.stationbus.specs.Bus.{number_at, some_pair_at, modes_at}
use Rattle.stationbus.proofs.Pairs.{full-gathered}
use Rattle.stationbus.proofs.full_after.Goals as goal

pub returns-in-Some : goal.returns-in-Some
returns-in-Some c =
    let a = c.args in
    rw c.in-Some.is
    (full-gathered (some_pair_at a.pair_tasks.now a.pair_starts.now a.pairs a.time.0) c.tasks_at-starting.ensures
    (modes_at a.pair_tasks.now a.pair_starts.now a.pair_modes.now a.pairs a.time.0) c.modes_at-sent.ensures
    a.homes.now (number_at a.modes.now) a.full c.full_from.ensures)
