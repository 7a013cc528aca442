-- The three ways: no run (`no_run`), no end of a run (`no_end`), or what the readers say (`message_by`).
use Rattle.keeping.proofs.Pairs.{message_by, no_end, no_run}
use Rattle.keeping.proofs.has_message.Goals as goal

pub some_reader-requires : goal.some_reader-requires
some_reader-requires c =
    (c.requires.0, c.if-period-gt0.true, c.requires.2)

pub returns-then-divides : goal.returns-then-divides
returns-then-divides c =
    let a = c.args in
    message_by a.runs.now a.counts.now a.periods.now a.task a.deadline a.mode c.entry_or-period.ensures
    c.if-period-gt0.true c.divides.ensures c.if-divides.true c.some_reader.ensures

pub returns-else-divides : goal.returns-else-divides
returns-else-divides c =
    let a = c.args in
    no_end a.runs.now a.counts.now a.periods.now a.task a.deadline a.mode c.entry_or-period.ensures
    c.if-period-gt0.true c.divides.ensures c.if-divides.false

pub returns-else-period-gt0 : goal.returns-else-period-gt0
returns-else-period-gt0 c =
    let a = c.args in
    no_run a.runs.now a.counts.now a.periods.now a.task a.deadline a.mode c.entry_or-period.ensures c.if-period-gt0.false
