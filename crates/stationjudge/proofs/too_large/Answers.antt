use Rattle.laws.proofs.Turns.{passed_turn, passed_hit, passed_end}
use Rattle.stationruns.proofs.Given.{given-then_some}
use Rattle.stationjudge.proofs.too_large.Goals as goal

pub loop-t-preserved : goal.loop-t-preserved
loop-t-preserved c =
    passed_turn c.loop-t.invariant (rw (c.then_some-result.ensures, given-then_some, c.from.ensures, c.is_set.ensures) at c.fits.ensures) c.if-not-fits.false

pub returns-then-not-fits : goal.returns-then-not-fits
returns-then-not-fits c =
    passed_hit c.loop-t.invariant c.loop-t-test.true (rw (c.then_some-result.ensures, given-then_some, c.from.ensures, c.is_set.ensures) at c.fits.ensures) c.if-not-fits.true

pub returns : goal.returns
returns c = passed_end c.loop-t.invariant c.loop-t.auto.t-end c.loop-t-test.false
