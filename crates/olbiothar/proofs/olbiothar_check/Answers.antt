-- `checks_rows` puts together what the callees promise.
use Rattle.olbiothar.proofs.CheckRules.{checks_rows}
use Rattle.olbiothar.proofs.olbiothar_check.Goals as goal

pub returns : goal.returns
returns c =
    let a = c.args in
    let j = c.judged-unscanned in
    checks_rows a.plan.now a.table.now a.rows.now c.scanned.result c.scanned.new.rows
    (
    record {
      unscanned = j.result;
      tasks = j.new.tasks;
      releases = j.new.releases;
      deadlines = j.new.deadlines;
      starts = j.new.starts;
      ws = c.fill.new.rows;
      same = c.fill.auto.rows;
      judged = j.ensures;
      filled_rows = c.fill.ensures;
      scanned = c.scanned.ensures;
    }
    )
