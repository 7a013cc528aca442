use native.Mathlib.Omega.{arith}
use Rattle.keeping.specs.Keeping.{FewReaders}
use Rattle.keeping.proofs.Read.{unread-none, unread_turn, read_here, unread-end}
use Rattle.keeping.proofs.some_reader.Goals as goal

pub loop-k-init : goal.loop-k-init
loop-k-init c = unread-none _ _ _ _ _

pub overflow_add-row : goal.overflow_add-row
unfolding FewReaders
overflow_add-row c =
    omega (arith, c.requires.2 c.args.task, c.entry_or-count.ensures, c.loop-k-test.true)

pub is_read-requires : goal.is_read-requires
is_read-requires c = c.requires.1

pub returns-then-is_read : goal.returns-then-is_read
returns-then-is_read c =
    let a = c.args in
    read_here a.counts.now a.periods.now a.task a.period a.deadline c.loop-k.k c.entry_or.ensures
    c.is_read.ensures c.entry_or-count.ensures c.loop-k-test.true c.if-is_read.true

pub loop-k-preserved : goal.loop-k-preserved
loop-k-preserved c =
    let a = c.args in
    unread_turn a.counts.now a.periods.now a.task a.period a.deadline c.loop-k.k c.entry_or.ensures
    c.is_read.ensures c.loop-k.invariant c.if-is_read.false

pub returns : goal.returns
returns c =
    let a = c.args in
    unread-end a.counts.now a.periods.now a.task a.period a.deadline c.entry_or-count.ensures c.loop-k.invariant
    c.loop-k.auto.k-end c.loop-k-test.false
