-- Two cases of the outcome: a whole file gives what was gathered (`read_whole`), a broken one no table, the lent arrays cleared
-- (`read-broken`); both gather from the zeros that were lent.
use Rattle.table.specs.Memory.{table_from}
use Rattle.table.proofs.Gathering.{read_whole, read-broken}
use Rattle.table.proofs.read.read_table.Goals as goal

pub returns-in-Whole : goal.returns-in-Whole
unfolding table_from
returns-in-Whole c =
    read_whole c.args.s.now c.gather-g.result _ _ _ _ _ _ _ (c.requires.tasks_value, (c.requires.deadlines_value, (c.requires.starts_value, c.requires.stops_value))) c.gather-g.ensures c.in-Whole.is

pub returns-in-Broken : goal.returns-in-Broken
returns-in-Broken c =
    read-broken c.args.s.now c.gather-g.result _ _ _ _ _ _ _ (c.requires.tasks_value, (c.requires.deadlines_value, (c.requires.starts_value, c.requires.stops_value))) c.gather-g.ensures c.in-Broken.is
    c.empty.ensures
