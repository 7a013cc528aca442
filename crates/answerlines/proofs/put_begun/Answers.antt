-- Case by case of the answer, the callee's promise is rewritten into the definition.
use Rattle.answerlines.proofs.Lines.{refused-begun}
use native.Mathlib.Omega.{arith}
use Rattle.answerlines.proofs.put_begun.Goals as goal

pub returns-in-Ok : goal.returns-in-Ok
returns-in-Ok c =
    record { out_after = rw c.in-Ok.is c.put_bytes.ensures; few = omega arith }

pub returns-in-Err : goal.returns-in-Err
returns-in-Err c =
    record { out_after = refused-begun c.args.out.now _ c.put_refusal.result c.in-Err.is c.put_refusal.ensures.out_after; few = omega (arith, c.put_refusal.ensures.few) }
