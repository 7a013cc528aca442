use mathlib.Core.Path.{◌≡◌, ap, ◌∙◌}
use native.Mathlib.Omega.{arith}
use lib.ListN.{length}
use lib.Seq.{length-sets}
use Rattle.rules.specs.Records.{kinds, fields, body_length}
use Rattle.rules.specs.Table.{control_bytes, record_length}
use Rattle.table.specs.Rows.{control_in}
use Rattle.table.proofs.Glued.{control_more}
use Rattle.table.proofs.write.put_controls.Goals as goal

pub loop-k-preserved : goal.loop-k-preserved
unfolding control_bytes control_in record_length body_length fields kinds
loop-k-preserved c =
    let a = c.args in
    control_more (control_in a.nodes.now a.starts.now a.stops.now) a.buf.now a.at c.loop-k.k
    c.loop-k.invariant c.put_control.ensures

pub shape_of-buf : goal.shape_of-buf
shape_of-buf c = ap length c.loop-k.invariant ∙ simp length-sets

pub returns : goal.returns
returns c =
    let e : c.loop-k.k ≡ c.args.controls = omega arith in
    rw (c.loop-k.invariant, e)
