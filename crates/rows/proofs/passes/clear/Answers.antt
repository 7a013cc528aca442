-- Zero rows where a check refuses (`cleared_rows`), else the rows as they were (`cleared-not`).
use Rattle.std.proofs.Common.{sym}
use Rattle.rows.proofs.Scanned.{cleared_found, cleared_rows, cleared-not}
use Rattle.rows.proofs.passes.clear.Goals as goal

pub returns-then-refused-clause-found : goal.returns-then-refused-clause-found
returns-then-refused-clause-found c = cleared_found _ _ _

pub returns-then-refused-clause-rows_value : goal.returns-then-refused-clause-rows_value
returns-then-refused-clause-rows_value c =
    cleared_rows c.args.frames c.end_of-end.result c.args.refused c.args.rows.now c.fill.new.self c.zero.result c.end_of-end.ensures.value c.end_of-end.ensures.room
    c.if-refused.true c.zero.ensures (c.fill.ensures.after (λ y e. e))

pub returns-else-refused-clause-found : goal.returns-else-refused-clause-found
returns-else-refused-clause-found c = cleared_found _ _ _

pub returns-else-refused-clause-rows_value : goal.returns-else-refused-clause-rows_value
returns-else-refused-clause-rows_value c = rw c.if-refused.false (sym (cleared-not _ _))
