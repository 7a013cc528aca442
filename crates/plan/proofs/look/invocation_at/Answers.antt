-- The entry of the part that is counted is the invocation that is seen, laid again (`looked_up`).
use Rattle.std.proofs.Common.{◌≡◌, refl, rules as needs}
use Rattle.rules.specs.Plan as rules
use Rattle.plan.specs.Memory.{invocation_laid, invocation_seen, seen, count_seen}
use Rattle.plan.proofs.Parts.{looked_up}
use Rattle.plan.proofs.look.invocation_at.Goals as goal

pub returns : goal.returns
unfolding invocation_laid invocation_seen seen count_seen rules.the_invocation
returns c =
    let p = c.args.p in
    let zero : c.default.result ≡ invocation_laid rules.no_invocation = search needs in
    rw (c.entry_or.ensures, zero)
    (looked_up invocation_seen invocation_laid (λ x. refl) rules.no_invocation refl (count_seen p 6) c.invocation_count.result p.invocations c.args.k
    c.invocation_count.ensures.0)
