-- Two cases of the room (`short-..`, `room-..`): the bytes are as many as the table's length says.
use Rattle.sheetreader.proofs.Bytes.{short-result, short-left, room-result, room-left}
use Rattle.sheetreader.specs.Memory.{bytes_in, laid}
use Rattle.sheetreader.proofs.written.Goals as goal

pub returns-then-table-needed : goal.returns-then-table-needed
returns-then-table-needed c =
    let a = c.args in
    let m = laid a.held a.control_nodes.now a.control_starts.now a.control_stops.now a.tasks.now a.deadlines.now
    a.starts.now a.stops.now in
    let long = c.table_length-needed.ensures.0 in
    let lent = a.table.now in
    record { value = short-result m long lent c.if-table-needed.true; table_after = short-left m long lent c.if-table-needed.true }

pub returns : goal.returns
unfolding bytes_in
returns c =
    let a = c.args in
    let m = laid a.held a.control_nodes.now a.control_starts.now a.control_stops.now a.tasks.now a.deadlines.now
    a.starts.now a.stops.now in
    let long = c.table_length-needed.ensures.0 in
    let lent = a.table.now in
    record { value = room-result m long lent c.if-table-needed.false; table_after = room-left m long lent c.if-table-needed.false (rw c.head_kind.ensures at c.write_table.ensures) }
