-- Found already (`looked-before`), or one of the rows is early (`looked-now`).
use Rattle.rows.proofs.Scanned.{looked-before, looked-now}
use Rattle.rows.proofs.passes.some_early.Goals as goal

pub returns-then-found : goal.returns-then-found
returns-then-found c =
    looked-before c.args.frames c.end_of-end.result c.args.rows.now c.end_of-end.ensures.value c.end_of-end.ensures.room c.if-found.true

pub returns-else-found : goal.returns-else-found
returns-else-found c =
    looked-now c.args.frames c.end_of-end.result c.args.rows.now c.end_of-end.ensures.value c.end_of-end.ensures.room c.if-found.false
    c.one_early.ensures
