-- A turn is `run_more`; where a step does not fit, the digits read make too large a number already (`value-large`), and where the run ends they
-- are all (`value-read`).
use Rattle.std.proofs.Common.{◌≡◌, ◌∙◌, ◌+◌, ◌-◌, ◌*◌, ℕ, sym, ap, arith, drop, length, get_or}
use Rattle.text.specs.Text.{digit_run, value_from}
use Rattle.text.proofs.Reading.{run_more, run_ends, run_over, value-more, value-large, value-read}
use Rattle.text.proofs.digits_in.Goals as goal

pub returns-in_err-checked_mul : goal.returns-in_err-checked_mul
returns-in_err-checked_mul c =
    c.from_residual.ensures
    ∙ value-large c.args.s.now c.loop-b.b-index c.loop-b.value c.loop-b.invariant.whole c.loop-b-test.true
    (sym c.is_digit.ensures ∙ c.if-not-is_digit.false) (omega (arith, c.in_err-checked_mul.ensures {u = tt}))

pub returns-in_err-value : goal.returns-in_err-value
returns-in_err-value c =
    c.from_residual-in_err-value.ensures
    ∙ value-large c.args.s.now c.loop-b.b-index c.loop-b.value c.loop-b.invariant.whole c.loop-b-test.true
    (sym c.is_digit.ensures ∙ c.if-not-is_digit.false) (omega (arith, c.in_err-value.ensures {u = tt}))

pub loop-b-preserved : goal.loop-b-preserved
loop-b-preserved c =
    let here = sym c.is_digit.ensures ∙ c.if-not-is_digit.false in
    let more = run_more c.args.s.now c.loop-b.b-index c.loop-b-test.true here in
    let value : c.in_ok-value.value ≡ 10 * c.loop-b.value + (get_or c.args.s.now c.loop-b.b-index 0 - 48) = omega
    (arith, c.in_ok-value.ensures {u = tt}, c.in_ok-checked_mul.ensures {u = tt}) in
    record {
      fits = omega (arith, c.in_ok-value.ensures {u = tt});
      here = omega (arith, c.loop-b.invariant.here);
      count = omega (arith, ap length more, c.loop-b.invariant.count);
      whole =
          ap (λ (v : ℕ). value_from v (digit_run (drop (c.loop-b.b-index + 1) c.args.s.now))) value
          ∙ value-more c.args.s.now c.loop-b.b-index c.loop-b.value c.loop-b.invariant.whole c.loop-b-test.true here;
    }

pub returns-after-loop-b : goal.returns-after-loop-b
returns-after-loop-b c =
    value-read c.args.s.now c.loop-b.b-index c.loop-b.value c.loop-b.invariant.whole c.loop-b.next
    (run_over c.args.s.now c.loop-b.b-index c.loop-b-test.false) c.loop-b.invariant.count c.loop-b.invariant.fits

pub returns-then-not-is_digit : goal.returns-then-not-is_digit
returns-then-not-is_digit c =
    value-read c.args.s.now c.loop-b.b-index c.loop-b.value c.loop-b.invariant.whole c.loop-b.next
    (run_ends c.args.s.now c.loop-b.b-index c.loop-b-test.true (sym c.is_digit.ensures ∙ c.if-not-is_digit.true)) c.loop-b.invariant.count
    c.loop-b.invariant.fits
