-- The number lies between two powers of ten, which say how many digits it has.
use Rattle.std.proofs.Common.{arith, ◌≤◌, ap, length, suc, sym}
use native.Mathlib.Nat.{pow-succ'}
use Rattle.text.proofs.Decimals.{decimal-zero}
use Rattle.text.specs.Text.{decimal}
use Rattle.text.proofs.Padded.{decimal-few, decimal-many}
use Rattle.text.proofs.decimal_length.Goals as goal

pub returns-then-x-eq0 : goal.returns-then-x-eq0
returns-then-x-eq0 c = rw c.if-x-eq0.true (sym (ap length decimal-zero), omega arith)

pub returns-else-x-eq0 : goal.returns-else-x-eq0
returns-else-x-eq0 c =
    let k = c.ilog10.result in
    let most : length (decimal c.args.x) ≤ suc k = decimal-few k c.args.x (omega (arith, pow-succ' 10 k)) in
    let least : suc k ≤ length (decimal c.args.x) = decimal-many k c.args.x c.ilog10.ensures.power_le in
    (omega arith, omega arith)
