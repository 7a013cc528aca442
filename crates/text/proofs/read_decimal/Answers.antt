-- What stands at the front of the part behind the place, at the place (`reads`).
use Rattle.std.proofs.Common.{◌∙◌, ◌≤◌, sym, ap, arith, length}
use lib.ListN.{length-drop}
use Rattle.text.proofs.Reading.{at_place, none_at, some_at, reads, within_part}
use Rattle.text.proofs.read_decimal.Goals as goal

pub returns-in_err-digits : goal.returns-in_err-digits
returns-in_err-digits c =
    c.from_residual.ensures
    ∙ sym (ap (at_place c.args.at) (c.in_err-digits.was {u = tt}))
    ∙ reads c.args.s.now c.args.at c.rest.ensures c.digits_in.ensures

pub returns-then-digits-eq0 : goal.returns-then-digits-eq0
returns-then-digits-eq0 c =
    none_at c.args.at c.in_ok-digits.digits c.if-digits-eq0.true
    ∙ sym (ap (at_place c.args.at) (c.in_ok-digits.was {u = tt}))
    ∙ reads c.args.s.now c.args.at c.rest.ensures c.digits_in.ensures

pub overflow_add-result : goal.overflow_add-result
overflow_add-result c =
    let few : c.in_ok-digits.digits.next ≤ length c.rest.result.now = within_part c.rest.result.now (sym (c.in_ok-digits.was {u = tt}) ∙ c.digits_in.ensures) in
    omega (arith, few, ap length c.rest.ensures, length-drop c.args.at c.args.s.now)

pub returns : goal.returns
returns c =
    some_at c.args.at c.in_ok-digits.digits c.if-digits-eq0.false
    ∙ sym (ap (at_place c.args.at) (c.in_ok-digits.was {u = tt}))
    ∙ reads c.args.s.now c.args.at c.rest.ensures c.digits_in.ensures
