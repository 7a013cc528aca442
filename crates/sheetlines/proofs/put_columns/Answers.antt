use Rattle.std.proofs.Common.{arith}
use Rattle.text.proofs.Putting.{putting_none, putting_turn}
use Rattle.sheet.specs.Sheet.{column_of, word_at}
use Rattle.sheetlines.proofs.put_columns.Goals as goal

pub loop-k-init : goal.loop-k-init
loop-k-init c = record { few = omega arith; put = putting_none }

pub loop-k-preserved : goal.loop-k-preserved
unfolding column_of word_at
loop-k-preserved c = record { few = omega arith; put = putting_turn c.loop-k.invariant.put c.put_column-next.ensures.buf_after }
