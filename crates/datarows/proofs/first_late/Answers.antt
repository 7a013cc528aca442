use borrow.Author.Tests.{lt-leb, le-leb}
use Rattle.laws.proofs.Loops.{first_bad-up_to_more}
use Rattle.datarows.specs.Rows.{due_kept}
use Rattle.naming.proofs.Places.{scan_hit}
use Rattle.datarows.proofs.first_late.Goals as goal

pub returns-then-deadlines-k : goal.returns-then-deadlines-k
unfolding due_kept
returns-then-deadlines-k c =
    scan_hit (due_kept c.args.stops.now c.args.deadlines.now) c.loop-k.invariant c.loop-k-test.true (lt-leb _ _ c.if-deadlines-k.true)

pub loop-k-preserved : goal.loop-k-preserved
unfolding due_kept
loop-k-preserved c =
    first_bad-up_to_more (due_kept c.args.stops.now c.args.deadlines.now) c.loop-k.k c.loop-k.invariant (le-leb _ _ c.if-deadlines-k.false)
