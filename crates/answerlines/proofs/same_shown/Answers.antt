use Rattle.std.proofs.Common.{◌∙◌, below_more, sym, arith}
use Rattle.answerlines.specs.Writing.{same_on}
use Rattle.answerlines.proofs.Places.{same-on}
use Rattle.laws.proofs.Lists.{all-up_to-each, all-up_to-failed}
use Rattle.answerlines.proofs.same_shown.Goals as goal

pub loop-n-preserved : goal.loop-n-preserved
loop-n-preserved c = below_more _ _ c.loop-n.invariant (same-on c.args.a c.args.b c.loop-n.n c.same_places-same.ensures ∙ c.if-not-same.false)

pub returns-then-not-same : goal.returns-then-not-same
returns-then-not-same c =
    sym (all-up_to-failed (same_on c.args.a c.args.b) 8 c.loop-n.n c.loop-n-test.true (same-on c.args.a c.args.b c.loop-n.n c.same_places-same.ensures ∙ c.if-not-same.true))

pub returns : goal.returns
returns c = sym (all-up_to-each (same_on c.args.a c.args.b) 8 (λ k h. c.loop-n.invariant k (omega arith)))
