-- Zero rows, and as many frames as have places stored over them (`filled-end`).
use Rattle.std.proofs.Common.{sym, ap, ◌∙◌, arith, replicate, length}
use Rattle.rows.specs.Frames.{rows_with}
use Rattle.rows.proofs.Filled.{filled-few, filled-end}
use Rattle.rows.proofs.passes.fill.Goals as goal

pub returns-then-rows-lt-MOST : goal.returns-then-rows-lt-MOST
returns-then-rows-lt-MOST c =
    let a = c.args in
    sym (filled-few (rows_with a.frames a.tasks.now a.releases.now a.deadlines.now a.starts.now) a.rows.now c.if-rows-lt-MOST.true)

pub returns : goal.returns
returns c =
    let a = c.args in
    filled-end (rows_with a.frames a.tasks.now a.releases.now a.deadlines.now a.starts.now) a.rows.now c.fill.new.self c.within-k-end.result
    (c.fill.ensures.after (λ y e. e) ∙ ap (replicate (length a.rows.now)) c.zero.ensures)
    c.if-rows-lt-MOST.false c.within-k-end.ensures.room c.within-k-end.ensures.value c.loop-k.rows c.loop-k.k c.loop-k.invariant
    (omega (arith, c.loop-k.auto.k-end, c.loop-k-test.false))
