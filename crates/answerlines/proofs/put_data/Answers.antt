-- The row where it is asked for (`data_put`), else nothing (`left_out`).
use Rattle.answerlines.proofs.Lines.{data_put, left_out}
use native.Mathlib.Omega.{arith}
use Rattle.answerlines.proofs.put_data.Goals as goal

pub returns-then-rows : goal.returns-then-rows
returns-then-rows c =
    record { out_after = rw c.if-rows.true (data_put c.args.out.now _ _ _ c.args.at c.put_marked-deadline_at.result c.put_marked-times_at.result c.put_times.result c.args.row c.put_marked-deadline_at.ensures.out_after c.put_marked-times_at.ensures.out_after c.put_times.ensures.out_after); few = omega arith }

pub returns : goal.returns
returns c =
    record { out_after = rw c.if-rows.false (left_out c.args.out.now c.args.at); few = omega arith }
