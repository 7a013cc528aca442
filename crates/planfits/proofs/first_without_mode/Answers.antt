use Rattle.std.proofs.Common.{◌∙◌, arith}
use Rattle.laws.proofs.Loops.{first_bad-up_to_more}
use Rattle.rules.specs.Plan.{has_mode}
use Rattle.plan.specs.Memory.{seen}
use Rattle.planfits.proofs.Seen.{has-mode}
use Rattle.planfits.proofs.Rule.{met}
use Rattle.planfits.proofs.first_without_mode.Goals as goal

pub returns-then-not-has_mode : goal.returns-then-not-has_mode
returns-then-not-has_mode c =
    met (has_mode (seen c.args.p)) (omega arith) c.loop-m.invariant
    (has-mode c.args.p _ c.mode_count.ensures.0 c.loop-m.m c.has_mode.ensures ∙ c.if-not-has_mode.true)

pub loop-m-preserved : goal.loop-m-preserved
loop-m-preserved c =
    first_bad-up_to_more (has_mode (seen c.args.p)) c.loop-m.m c.loop-m.invariant
    (has-mode c.args.p _ c.mode_count.ensures.0 c.loop-m.m c.has_mode.ensures ∙ c.if-not-has_mode.false)
