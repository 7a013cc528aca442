-- Invariant: by task, the flags of the pairs so far. A pair of a task with the time sets one (`flag_met`), any other none (`flag_missed`).
use mathlib.Core.Path.{◌≡◌}
use mathlib.Core.Bool.{false}
use lib.ListN.{replicate}
use Rattle.laws.specs.Loops.{stores}
use Rattle.stationbus.specs.Bus.{some_pair_at}
use Rattle.stationbus.proofs.tasks_from.Given as goal

abbrev pub invariant-loop-q : goal.invariant-loop-q
invariant-loop-q l = l.some ≡ stores (replicate 32 false) (some_pair_at l.pair_tasks l.times l.q l.time.0) 32
