use Rattle.std.proofs.Common.{sym, ap, ◌∙◌, not, arith, length-take}
use Rattle.laws.proofs.Loops.{first_bad-up_to_more}
use Rattle.rules.specs.Plan.{connection_keeps}
use Rattle.plan.specs.Memory.{seen, connection_laid}
use Rattle.planfits.proofs.Seen.{own-doubtful, ends-doubtful}
use Rattle.planfits.proofs.Rule.{met}
use Rattle.planfits.proofs.first_doubtful.Goals as goal
use Rattle.planfits.proofs.first_doubtful.Goals.{then-is_own-via-then-is_own, then-is_own-via-else-is_own+then-has_same_ends}

pub returns-then-is_own : goal.returns-then-is_own
unfolding connection_laid
returns-then-is_own c =
    let p = c.args.p in
    let count = c.connection_count.ensures.0 in
    met (connection_keeps (seen p).connections) (omega (arith, length-take c.connection_count.result p.connections)) c.loop-k.invariant
    (elim c.then-is_own.branch [
      | then-is_own-via-then-is_own w ↦ own-doubtful p _ count c.loop-k.k (sym w.if-is_own.true ∙ c.is_own.ensures)
      | then-is_own-via-else-is_own+then-has_same_ends w ↦
          ends-doubtful p _ count c.loop-k.k (sym w.if-is_own.false ∙ c.is_own.ensures) w.has_same_ends.ensures
          ∙ ap not w.if-has_same_ends.true
    ])

pub loop-k-preserved : goal.loop-k-preserved
unfolding connection_laid
loop-k-preserved c =
    let p = c.args.p in
    first_bad-up_to_more (connection_keeps (seen p).connections) c.loop-k.k c.loop-k.invariant
    (ends-doubtful p _ c.connection_count.ensures.0 c.loop-k.k (sym c.if-is_own.false ∙ c.is_own.ensures) c.has_same_ends.ensures
    ∙ ap not c.if-has_same_ends.false)
