-- Invariant: the first k of the row are stored (`sets`); each turn is `sets_more`.
use mathlib.Core.Path.{◌≡◌}
use lib.ListN.{take}
use lib.Seq.{sets}
use Rattle.bus.proofs.readers.put_row.Given as goal

abbrev pub invariant-loop-k : goal.invariant-loop-k
invariant-loop-k l = l.periods ≡ sets l.initial.periods l.from (take l.k (take l.fn.n l.fn.row))
