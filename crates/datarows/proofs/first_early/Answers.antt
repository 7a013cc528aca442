use Rattle.std.proofs.Common.{rules, ◌<◌, ◌≤◌, get_or}
use Rattle.laws.proofs.Loops.{first_bad-up_to_more}
use Rattle.datarows.specs.Rows.{release_kept}
use Rattle.naming.proofs.Places.{scan_hit}
use borrow.Author.Tests.{lt-leb, le-leb}
use Rattle.datarows.proofs.first_early.Goals as goal

pub returns-then-lt : goal.returns-then-lt
unfolding release_kept
returns-then-lt c =
    let a = c.args in
    let before : get_or a.starts.now c.loop-k.k 0 < c.release_of.result.0 = search rules in
    scan_hit (release_kept a.starts.now a.releases.now a.numbers.now) c.loop-k.invariant c.loop-k-test.true
    (rw (← c.release_of.ensures) (lt-leb _ _ before))

pub loop-k-preserved : goal.loop-k-preserved
unfolding release_kept
loop-k-preserved c =
    let a = c.args in
    let kept : c.release_of.result.0 ≤ get_or a.starts.now c.loop-k.k 0 = search rules in
    first_bad-up_to_more (release_kept a.starts.now a.releases.now a.numbers.now) c.loop-k.k c.loop-k.invariant
    (rw (← c.release_of.ensures) (le-leb _ _ kept))
