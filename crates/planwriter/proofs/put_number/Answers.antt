-- The blanks and the digits are one (`number_put`).
use native.Mathlib.Omega.{arith}
use Rattle.planwriter.proofs.Pieces.{number_put}
use Rattle.planwriter.proofs.put_number.Goals as goal

pub returns-clause-out_after : goal.returns-clause-out_after
returns-clause-out_after c =
    let a = c.args in
    number_put _ _ _ _ _ _ a.columns a.x (omega (arith, c.saturating_sub-blanks.ensures, c.from.ensures, c.decimal_length.ensures.0))
    c.put_spaces-number_at.ensures.buf_after c.put_decimal.ensures
