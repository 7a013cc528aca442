-- `refused-put` joins the five pieces; `decimal-most` bounds the numbers, so that no place overflows.
use Rattle.std.proofs.Common.{arith}
use Rattle.text.proofs.Decimals.{decimal-most}
use Rattle.text.proofs.Putting.{Put, at_front, refused-put}
use Rattle.text.specs.Text.{decimal, refused_line}
use Rattle.text.proofs.put_refused.Goals as goal

pub put_bytes-place_at-requires : goal.put_bytes-place_at-requires
put_bytes-place_at-requires c = omega (arith, decimal-most)

pub put_decimal-end-requires : goal.put_decimal-end-requires
put_decimal-end-requires c = omega (arith, decimal-most)

pub put_bytes-requires : goal.put_bytes-requires
put_bytes-requires c = omega (arith, decimal-most)

pub returns : goal.returns
returns c =
    let named : Put c.put_bytes-number_at.new.buf c.put_bytes-number_at.result (decimal c.args.number) c.put_decimal-at_at.new.buf c.put_decimal-at_at.result =
    rw c.from.ensures at c.put_decimal-at_at.ensures in
    at_front _ (refused_line c.args.number c.args.place) _ _
    (refused-put _ _ _ _ _ _ _ _ _ _ _ _ _ c.put_bytes-number_at.ensures named c.put_bytes-place_at.ensures c.put_decimal-end.ensures c.put_bytes.ensures)
