-- By cases of the answer: no refusal, one before 25, one from 25 on; a law for each.
use mathlib.Core.Path.{refl}
use native.Mathlib.Omega.{arith}
use Rattle.text.proofs.Decimals.{refused-line-most}
use Rattle.sheetwriter.proofs.Ways.{early-printed, late-printed, printed-fine}
use Rattle.sheetwriter.proofs.printed.Goals as goal

pub returns-then-number-lt25 : goal.returns-then-number-lt25
returns-then-number-lt25 c =
    rw c.in-Err.is record {
      prints = (early-printed _ _ _ _ _ c.number.ensures c.place.ensures (omega arith) (omega arith) c.number-in-Err.ensures c.if-number-lt25.true c.put_refused-top.ensures refl).0;
      few = omega (arith, c.put_refused-top.ensures.1, refused-line-most c.number.result c.place.result (omega arith) (omega arith));
    }

pub put_sheet-length-requires-in-Err : goal.put_sheet-length-requires-in-Err
put_sheet-length-requires-in-Err c = omega (arith, c.put_refused-top.ensures.1, refused-line-most c.number.result c.place.result (omega arith) (omega arith))

pub returns-in-Ok : goal.returns-in-Ok
returns-in-Ok c = rw c.in-Ok.is record { prints = printed-fine _ _ _ _ c.put_sheet-length.ensures.buf_after refl; few = omega (arith, c.put_sheet-length.ensures.few) }

pub returns-else-number-lt25 : goal.returns-else-number-lt25
returns-else-number-lt25 c =
    rw c.in-Err.is record {
      prints = (late-printed _ _ _ _ _ _ c.number.ensures c.place.ensures (omega arith) (omega arith) c.number-in-Err.ensures c.if-number-lt25.false c.put_refused-top.ensures
          c.put_sheet-length-in-Err.ensures.buf_after c.put_sheet-length-in-Err.ensures.few refl).0;
      few = omega (arith, c.put_sheet-length-in-Err.ensures.few, c.put_refused-top.ensures.1, refused-line-most c.number.result c.place.result (omega arith) (omega arith));
    }
