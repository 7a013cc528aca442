-- Invariant: the bytes of the first k control rows are stored; a turn is `control_more`.
use mathlib.Core.Path.{◌≡◌}
use mathlib.Core.List.{map}
use lib.Seq.{sets}
use Rattle.laws.specs.Lists.{tab, joined}
use Rattle.rules.specs.Table.{control_bytes}
use Rattle.table.specs.Rows.{control_in}
use Rattle.table.proofs.write.put_controls.Given as goal

abbrev pub invariant-loop-k : goal.invariant-loop-k
invariant-loop-k l =
    l.buf ≡ sets l.initial.buf l.at (joined (map control_bytes (tab (control_in l.nodes l.starts l.stops) 0 l.k)))
