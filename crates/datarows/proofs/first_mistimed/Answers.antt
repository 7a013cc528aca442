use Rattle.laws.proofs.Loops.{first_bad-up_to_more}
use Rattle.datarows.specs.Rows.{time_kept}
use Rattle.naming.proofs.Places.{scan_hit}
use Rattle.datarows.proofs.first_mistimed.Goals as goal

pub returns-then-not-time_kept : goal.returns-then-not-time_kept
unfolding time_kept
returns-then-not-time_kept c =
    let a = c.args in
    scan_hit (time_kept a.tasks.now a.starts.now a.stops.now a.times.now a.resolution.0) c.loop-k.invariant c.loop-k-test.true
    (rw (← c.time_of-time.ensures, ← c.time_kept.ensures) c.if-not-time_kept.true)

pub loop-k-preserved : goal.loop-k-preserved
unfolding time_kept
loop-k-preserved c =
    let a = c.args in
    first_bad-up_to_more (time_kept a.tasks.now a.starts.now a.stops.now a.times.now a.resolution.0) c.loop-k.k c.loop-k.invariant
    (rw (← c.time_of-time.ensures, ← c.time_kept.ensures) c.if-not-time_kept.false)
