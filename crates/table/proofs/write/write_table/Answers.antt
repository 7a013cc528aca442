-- Header, control rows, data rows and last byte, stored one behind the other, are the table's bytes (`table-put`).
use Rattle.rules.specs.Records.{kinds, fields, body_length}
use Rattle.rules.specs.Table.{record_length}
use Rattle.table.specs.Rows.{control_in, data_in}
use Rattle.table.proofs.Glued.{table-put}
use Rattle.table.proofs.write.write_table.Goals as goal

pub returns : goal.returns
unfolding record_length body_length fields kinds
returns c =
    let a = c.args in
    table-put a.buf.now a.head a.period.0 a.controls a.rows (control_in a.control_nodes.now a.control_starts.now a.control_stops.now)
    (data_in a.row_tasks.now a.row_deadlines.now a.row_starts.now a.row_stops.now) c.put_header.ensures
    c.put_controls.ensures c.put_rows.ensures c.put8.ensures
