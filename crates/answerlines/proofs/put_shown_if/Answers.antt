-- The line where it is asked for, else nothing (`left_out`).
use Rattle.answerlines.proofs.Lines.{left_out}
use native.Mathlib.Omega.{arith}
use Rattle.answerlines.proofs.put_shown_if.Goals as goal

pub returns-then-shows : goal.returns-then-shows
returns-then-shows c =
    record { out_after = rw c.if-shows.true c.put_shown.ensures.out_after; few = c.put_shown.ensures.few }

pub returns : goal.returns
returns c =
    record { out_after = rw c.if-shows.false (left_out c.args.out.now c.args.at); few = omega arith }
