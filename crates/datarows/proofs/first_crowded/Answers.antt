use Rattle.std.proofs.Common.{rules, ◌<◌, ◌≤◌}
use Rattle.laws.proofs.Loops.{first_bad-up_to_more}
use Rattle.datarows.specs.Rows.{gap_kept}
use Rattle.naming.proofs.Places.{scan_hit}
use borrow.Author.Tests.{lt-leb, le-leb}
use Rattle.datarows.proofs.first_crowded.Goals as goal

pub returns-then-lt : goal.returns-then-lt
unfolding gap_kept
returns-then-lt c =
    let a = c.args in
    let before : c.wide.result.0 < c.later-free.result.0 = search rules in
    scan_hit (gap_kept a.starts.now a.stops.now a.last.0 a.gap.0) c.loop-k.invariant c.loop-k-test.true
    (rw (← c.stop_before.ensures, ← c.later-free.ensures, ← c.wide.ensures) (lt-leb _ _ before))

pub loop-k-preserved : goal.loop-k-preserved
unfolding gap_kept
loop-k-preserved c =
    let a = c.args in
    let kept : c.later-free.result.0 ≤ c.wide.result.0 = search rules in
    first_bad-up_to_more (gap_kept a.starts.now a.stops.now a.last.0 a.gap.0) c.loop-k.k c.loop-k.invariant
    (rw (← c.stop_before.ensures, ← c.later-free.ensures, ← c.wide.ensures) (le-leb _ _ kept))
