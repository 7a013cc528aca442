use mathlib.Core.Path.{◌≡◌, ap, ◌∙◌}
use native.Mathlib.Omega.{arith}
use lib.ListN.{length}
use lib.Seq.{length-sets}
use Rattle.rules.specs.Records.{kinds, fields, body_length}
use Rattle.rules.specs.Table.{data_bytes, record_length}
use Rattle.table.specs.Rows.{data_in}
use Rattle.table.proofs.Glued.{data_more}
use Rattle.table.proofs.write.put_rows.Goals as goal

pub loop-k-preserved : goal.loop-k-preserved
unfolding data_bytes data_in record_length body_length fields kinds
loop-k-preserved c =
    let a = c.args in
    data_more (data_in a.tasks.now a.deadlines.now a.starts.now a.stops.now) a.buf.now a.at c.loop-k.k
    c.loop-k.invariant c.put_data.ensures

pub shape_of-buf : goal.shape_of-buf
shape_of-buf c = ap length c.loop-k.invariant ∙ simp length-sets

pub returns : goal.returns
returns c =
    let e : c.loop-k.k ≡ c.args.rows = omega arith in
    rw (c.loop-k.invariant, e)
