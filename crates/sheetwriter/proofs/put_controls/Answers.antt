use Rattle.std.proofs.Common.{arith}
use Rattle.text.proofs.Putting.{putting_none, putting_turn, putting_end}
use Rattle.table.specs.Rows.{control_in}
use Rattle.sheetwriter.specs.Memory.{control_text_in}
use Rattle.sheetwriter.proofs.put_controls.Goals as goal

pub loop-k-init : goal.loop-k-init
loop-k-init c = record { few = omega arith; put = putting_none }

pub put_row-next-requires : goal.put_row-next-requires
put_row-next-requires c =
    let few = c.loop-k.invariant.few in
    let room = c.requires.controls_le_most_nodes in
    record { kind_len_bound = omega arith; number_bound = (omega (arith, room.0), omega (arith, room.0, room.1)) }

pub loop-k-preserved : goal.loop-k-preserved
unfolding control_text_in control_in
loop-k-preserved c =
    record {
      few = omega (arith, c.loop-k.invariant.few, c.put_row-next.ensures.few);
      put = putting_turn c.loop-k.invariant.put (rw (← c.control_cells-cells.ensures) c.put_row-next.ensures.buf_after);
    }

pub returns : goal.returns
returns c =
    let room = c.requires.controls_le_most_nodes in
    record {
      buf_after = putting_end c.loop-k.invariant.put c.loop-k.auto.k-end c.loop-k-test.false;
      few = omega (arith, c.loop-k.invariant.few, room.0, c.loop-k.auto.k-end);
    }
