-- The row where it is asked for (`control-put`), else nothing (`left_out`).
use Rattle.answerlines.proofs.Lines.{control-put, left_out}
use native.Mathlib.Omega.{arith}
use Rattle.answerlines.proofs.put_control.Goals as goal

pub returns-then-rows : goal.returns-then-rows
returns-then-rows c =
    record { out_after = rw c.if-rows.true (control-put c.args.out.now _ _ c.args.at c.put_marked-times_at.result c.put_times.result c.args.row c.put_marked-times_at.ensures.out_after c.put_times.ensures.out_after); few = omega arith }

pub returns : goal.returns
returns c =
    record { out_after = rw c.if-rows.false (left_out c.args.out.now c.args.at); few = omega arith }
