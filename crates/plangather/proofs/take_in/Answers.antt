-- Each arm is one of `Stored`'s cases, at the kind that it is for.
use Rattle.std.proofs.Common.{rules as needs}
use Rattle.rules.specs.Records.{record_of, fields, kinds}
use Rattle.plangather.proofs.Gathering.{plain, framed}
use Rattle.plangather.proofs.Stored.{stored-bus, stored-nodes, stored-module, stored-mode, stored-task, stored-invocation, stored-connection, stored-nothing}
use Rattle.plangather.proofs.take_in.Goals as goal

pub returns-in-1 : goal.returns-in-1
returns-in-1 c =
    rw c.in-1.is (stored-bus _ _ _ _ plain (rw c.in-1.is at c.counted-n.ensures.1) c.bus-p.ensures)

pub returns-in-9 : goal.returns-in-9
returns-in-9 c =
    rw c.in-9.is (stored-bus _ _ _ _ framed (rw c.in-9.is at c.counted-n.ensures.1) c.framed_bus-p.ensures)

pub returns-in-2 : goal.returns-in-2
unfolding record_of fields kinds
returns-in-2 c =
    rw (c.in-2.is, c.from.ensures) (stored-nodes _ _ _ _ (rw c.in-2.is at c.counted-n.ensures.1) c.read8.ensures)

pub returns-in-3 : goal.returns-in-3
returns-in-3 c =
    rw (c.in-3.is, c.store.ensures)
    (stored-module _ _ _ _ _ (rw c.in-3.is at c.counted-n.ensures.0) (rw c.in-3.is at c.counted-n.ensures.1) c.«module».ensures)

pub returns-in-4 : goal.returns-in-4
returns-in-4 c =
    rw (c.in-4.is, c.store-in-4.ensures)
    (stored-mode _ _ _ _ _ (rw c.in-4.is at c.counted-n.ensures.0) (rw c.in-4.is at c.counted-n.ensures.1) c.mode.ensures)

pub returns-in-5 : goal.returns-in-5
returns-in-5 c =
    rw (c.in-5.is, c.store-in-5.ensures)
    (stored-task _ _ _ _ _ (rw c.in-5.is at c.counted-n.ensures.0) (rw c.in-5.is at c.counted-n.ensures.1) c.task.ensures)

pub returns-in-6 : goal.returns-in-6
returns-in-6 c =
    rw (c.in-6.is, c.store-in-6.ensures)
    (stored-invocation _ _ _ _ _ (rw c.in-6.is at c.counted-n.ensures.0) (rw c.in-6.is at c.counted-n.ensures.1) c.invocation.ensures)

pub returns-in-7 : goal.returns-in-7
returns-in-7 c =
    rw (c.in-7.is, c.store-in-7.ensures)
    (stored-connection _ _ _ _ _ (rw c.in-7.is at c.counted-n.ensures.0) (rw c.in-7.is at c.counted-n.ensures.1) c.connection.ensures)

pub returns-in_default : goal.returns-in_default
returns-in_default c = stored-nothing _ _ _ _ (search needs) c.counted-n.ensures.1
