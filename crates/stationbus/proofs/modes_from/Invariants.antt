-- Invariant: by task, the words of the pairs so far. A pair of a task with the time joins one (`word_met`), any other none (`word_missed`).
use mathlib.Core.Path.{◌≡◌}
use lib.ListN.{replicate}
use Rattle.laws.specs.Loops.{stores}
use Rattle.stationbus.specs.Bus.{modes_at}
use Rattle.stationbus.proofs.modes_from.Given as goal

abbrev pub invariant-loop-q : goal.invariant-loop-q
invariant-loop-q l = l.modes ≡ stores (replicate 32 0) (modes_at l.pair_tasks l.times l.pair_modes l.q l.time.0) 32
