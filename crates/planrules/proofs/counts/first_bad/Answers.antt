use Rattle.std.proofs.Common.{sym, ◌∙◌}
use Rattle.laws.proofs.Loops.{first_bad-up_to_more}
use Rattle.planrules.specs.Tests.{counts_fit}
use Rattle.planfits.proofs.Rule.{met}
use Rattle.planrules.proofs.counts.first_bad.Goals as goal

pub returns-then-not-fits : goal.returns-then-not-fits
returns-then-not-fits c =
    met (counts_fit c.args.counts) c.loop-k-test.true c.loop-k.invariant (sym c.fits.ensures ∙ c.if-not-fits.true)

pub loop-k-preserved : goal.loop-k-preserved
loop-k-preserved c =
    first_bad-up_to_more (counts_fit c.args.counts) c.loop-k.k c.loop-k.invariant (sym c.fits.ensures ∙ c.if-not-fits.false)
