-- Two cases: 0 is one byte (`zero-put`); any other number is its digits (`digits-put`), at most 20 (`digits-most`).
use Rattle.std.proofs.Common.{◌+◌, ◌∙◌, arith, set}
use native.Mathlib.Nat.{pos_of_ne-zero}
use Rattle.text.specs.Text.{decimal}
use Rattle.text.proofs.Decimals.{digits-most}
use Rattle.text.proofs.Putting.{Put, zero-put, digits-put}
use Rattle.text.proofs.put_decimal.Goals as goal

pub returns-then-x-eq0 : goal.returns-then-x-eq0
returns-then-x-eq0 c =
    let a = c.args in
    let put : Put a.buf.now a.at (decimal a.x) (set a.buf.now a.at 48) (a.at + 1) = zero-put a.buf.now a.at a.x c.if-x-eq0.true in
    (c.store.ensures ∙ put.0, put.1)

pub put_digits-requires : goal.put_digits-requires
put_digits-requires c = omega (arith, digits-most)

pub returns : goal.returns
returns c =
    digits-put c.args.buf.now _ c.args.at c.put_digits.result c.args.x (pos_of_ne-zero c.if-x-eq0.false) c.put_digits.ensures
