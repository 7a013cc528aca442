-- The four pieces are one line (`row_put`); arithmetic counts the bytes.
use native.Mathlib.Omega.{arith}
use Rattle.sheetlines.proofs.Pieces.{comment_few, row_put}
use Rattle.sheetlines.proofs.put_row.Goals as goal

pub put_marked-end-requires : goal.put_marked-end-requires
put_marked-end-requires c = omega (arith, c.put_kind-cells_at.ensures.few, c.put_columns-comment_at.ensures.few)

pub put_bytes-requires : goal.put_bytes-requires
put_bytes-requires c = omega (arith, c.put_kind-cells_at.ensures.few, c.put_columns-comment_at.ensures.few, c.put_marked-end.ensures.few)

pub returns : goal.returns
returns c =
    let a = c.args in record { buf_after = row_put _ _ _ _ _ _ _ _ _ _ a.kind.now a.cells a.number c.put_kind-cells_at.ensures.buf_after c.put_columns-comment_at.ensures.buf_after c.put_marked-end.ensures.out_after c.put_bytes.ensures; few = omega (arith, comment_few a.number c.requires.number_bound.0, c.put_marked-end.ensures.out_after.1, c.put_kind-cells_at.ensures.few, c.put_columns-comment_at.ensures.few, c.put_marked-end.ensures.few, c.put_bytes.ensures.1) }
