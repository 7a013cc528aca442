use Rattle.std.proofs.Common.{arith, ◌≡◌, ◌+◌, ◌<◌, ◌/◌, ◌%◌, ◌∙◌, suc, length, set}
use native.Mathlib.Nat.{pos_of_ne-zero}
use Rattle.text.specs.Text.{digits}
use Rattle.text.proofs.Decimals.{digits-count}
use Rattle.text.proofs.Putting.{Put, no_digit_put, put_digit}
use Rattle.text.proofs.+put_digits.Goals as goal

pub returns-then-x-eq0 : goal.returns-then-x-eq0
returns-then-x-eq0 t c = no_digit_put c.args.buf.now c.args.at c.args.x c.if-x-eq0.true

pub put_digits-last-requires : goal.put_digits-last-requires
put_digits-last-requires t c =
    let a = c.args in
    let some : 0 < a.x = pos_of_ne-zero c.if-x-eq0.false in
    let count : length (digits a.x) ≡ suc (length (digits (a.x / 10))) = digits-count a.x some in
    let same : a.x ≡ t = c.decreases in
    (omega arith, omega arith)

pub overflow_add-result : goal.overflow_add-result
overflow_add-result t c =
    let a = c.args in
    let some : 0 < a.x = pos_of_ne-zero c.if-x-eq0.false in
    let count : length (digits a.x) ≡ suc (length (digits (a.x / 10))) = digits-count a.x some in
    record { fits = omega arith }

pub returns : goal.returns
returns t c =
    let a = c.args in
    let some : 0 < a.x = pos_of_ne-zero c.if-x-eq0.false in
    let put : Put a.buf.now a.at (digits a.x) (set c.put_digits-last.new.buf c.put_digits-last.result (48 + a.x % 10)) (c.put_digits-last.result + 1) =
    put_digit a.buf.now c.put_digits-last.new.buf a.at c.put_digits-last.result a.x some c.put_digits-last.ensures in
    (c.store.ensures ∙ put.0, put.1)
