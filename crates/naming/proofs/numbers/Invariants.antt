-- Invariant: the first k places are filled by `number_at` (`stores`); a turn is `stores_turn` on what `number_of` promises.
use Rattle.std.proofs.Common.{◌≡◌, replicate}
use Rattle.rules.specs.Limits.{most_frames}
use Rattle.laws.specs.Loops.{stores}
use Rattle.naming.specs.Places.{number_at}
use Rattle.naming.proofs.numbers.Given as goal

abbrev pub invariant-loop-k : goal.invariant-loop-k
invariant-loop-k l =
    l.found ≡ stores (replicate most_frames 0) (number_at l.tasks l.deadlines l.frames l.row_tasks l.row_deadlines) l.k
