use mathlib.Core.Path.{refl}
use borrow.Author.Tests.{eq-eqb, ne_eqb}
use Rattle.laws.proofs.Turns.{passed_turn, passed_hit, passed_end}
use Rattle.rules.proofs.TransparentTick.{row_by_other}
use Rattle.stationbus.specs.Bus.{number_at}
use Rattle.stationbus.proofs.first_with.Goals as goal

pub returns-then-entry_or-time : goal.returns-then-entry_or-time
returns-then-entry_or-time c =
    let a = c.args in
    rw (row_by_other (number_at a.times.now) a.count a.time.0)
    (passed_hit c.loop-row.invariant c.loop-row-test.true refl (rw (← c.entry_or.ensures, eq-eqb _ _ c.if-entry_or-time.true)))

pub loop-row-preserved : goal.loop-row-preserved
loop-row-preserved c = passed_turn c.loop-row.invariant refl (rw (← c.entry_or.ensures, ne_eqb _ _ c.if-entry_or-time.false))

pub returns : goal.returns
returns c =
    let a = c.args in
    rw (row_by_other (number_at a.times.now) a.count a.time.0)
    (passed_end c.loop-row.invariant c.loop-row.auto.row-end c.loop-row-test.false)
