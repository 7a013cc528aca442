use mathlib.Core.Path.{refl}
use borrow.Author.Tests.{le-leb, lt-leb}
use Rattle.laws.proofs.Turns.{tested_turn, tested_end}
use Rattle.stationrange.proofs.pairs.Goals as goal

pub loop-q-preserved : goal.loop-q-preserved
loop-q-preserved c = tested_turn c.loop-q.invariant refl (c.pair-good.ensures)

pub returns-then-count-gt-MOST : goal.returns-then-count-gt-MOST
returns-then-count-gt-MOST c = rw (← c.from-count.ensures, lt-leb _ _ c.if-count-gt-MOST.true)

pub returns : goal.returns
returns c =
    rw (← c.from-count.ensures, le-leb _ _ c.if-count-gt-MOST.false)
    (tested_end c.loop-q.invariant c.loop-q.auto.q-end c.loop-q-test.false)
