-- Case by case of what is said: a row and what is shown (`row-said`), or what is shown alone, or the refusal.
use Rattle.answerlines.proofs.Lines.{row-said, starts}
use native.Mathlib.Omega.{arith}
use Rattle.answerlines.proofs.put_said.Goals as goal

pub returns-in-Ok-Some : goal.returns-in-Ok-Some
returns-in-Ok-Some c =
    record { out_after = row-said c.args.out.now _ _ c.args.at c.put_row-next.result c.put_shown_if.result c.args.rows c.args.shows c.args.nodes (starts c.in-Ok-Some.field-0 c.in-Ok-Some.row c.in-Ok-Some.is (rw c.in-Ok-Some.is at c.in-Ok-Some.field-0-is)) c.put_row-next.ensures.out_after c.put_shown_if.ensures.out_after; few = omega arith }

pub returns-in-Err : goal.returns-in-Err
returns-in-Err c =
    record { out_after = rw c.in-Err.is c.put_refusal.ensures.out_after; few = omega (arith, c.put_refusal.ensures.few) }
