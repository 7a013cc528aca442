-- Invariant: what is held, with the rest of the file gathered in, is the whole (`SoFar`); one law for each step (`row_turn` and such).
use Prim.Native.Nat.{◌-◌}
use lib.ListN.{length}
use Rattle.rules.specs.Records.{records, table_follows}
use Rattle.table.specs.Memory.{empty_table, table_from, gathered_from}
use Rattle.table.proofs.Gathering.{SoFar}
use Rattle.table.proofs.read.gather.Given as goal

abbrev pub invariant-loop-kind : goal.invariant-loop-kind
invariant-loop-kind l =
    SoFar l.s
    (gathered_from (table_from empty_table.header 0 0 l.initial.control_nodes l.initial.control_starts l.initial.control_stops l.initial.tasks l.initial.deadlines l.initial.starts l.initial.stops) (records table_follows 20 l.s))
    l.previous l.at l.head l.controls l.rows l.control_nodes l.control_starts l.control_stops l.tasks l.deadlines l.starts l.stops

abbrev pub decreases-loop-kind : goal.decreases-loop-kind
decreases-loop-kind l =
    length l.s - l.at
