-- Invariant: the bytes of the first k data rows are stored; a turn is `data_more`.
use mathlib.Core.Path.{◌≡◌}
use mathlib.Core.List.{map}
use lib.Seq.{sets}
use Rattle.laws.specs.Lists.{tab, joined}
use Rattle.rules.specs.Table.{data_bytes}
use Rattle.table.specs.Rows.{data_in}
use Rattle.table.proofs.write.put_rows.Given as goal

abbrev pub invariant-loop-k : goal.invariant-loop-k
invariant-loop-k l =
    l.buf ≡ sets l.initial.buf l.at (joined (map data_bytes (tab (data_in l.tasks l.deadlines l.starts l.stops) 0 l.k)))
