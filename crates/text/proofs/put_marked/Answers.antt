-- The mark and the number, put one behind the other, are one text (`both_put`); `marked-few` counts its bytes.
use Rattle.std.proofs.Common.{arith}
use Rattle.text.proofs.Putting.{both_put, marked-few}
use Rattle.text.proofs.put_marked.Goals as goal

pub returns : goal.returns
returns c =
    let a = c.args in
    let few = marked-few a.mark.now a.x (omega arith) in
    let put = both_put a.out.now _ _ a.mark.now _ a.at c.put_bytes-number_at.result c.put_decimal.result c.put_bytes-number_at.ensures c.put_decimal.ensures in
    record { out_after = put; few = omega arith }
