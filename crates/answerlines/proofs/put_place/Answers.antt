-- Two cases: a zero puts nothing (`zero-put`); else three marked numbers are joined (`place-put`).
use Rattle.answerlines.proofs.Lines.{zero-put, place-put}
use native.Mathlib.Omega.{arith}
use Rattle.answerlines.proofs.put_place.Goals as goal

pub returns-then-value-eq0 : goal.returns-then-value-eq0
returns-then-value-eq0 c =
    let a = c.args in
    record { out_after = zero-put a.out.now a.at a.n a.t a.value c.if-value-eq0.true; few = omega arith }

pub returns : goal.returns
returns c =
    let a = c.args in record {
      out_after = place-put a.out.now _ _ _ a.at c.put_marked-task_at.result c.put_marked-value_at.result c.put_marked.result a.n
          a.t a.value c.if-value-eq0.false c.put_marked-task_at.ensures.out_after c.put_marked-value_at.ensures.out_after
          c.put_marked.ensures.out_after;
      few = omega arith;
    }
