-- The entry of the part that is counted is the mode that is seen, laid again (`looked_up`).
use Rattle.std.proofs.Common.{◌≡◌, refl, rules as needs}
use Rattle.rules.specs.Plan as rules
use Rattle.plan.specs.Memory.{mode_laid, mode_seen, seen, count_seen}
use Rattle.plan.proofs.Parts.{looked_up}
use Rattle.plan.proofs.look.mode_at.Goals as goal

pub returns : goal.returns
unfolding mode_laid mode_seen seen count_seen rules.the_mode
returns c =
    let p = c.args.p in
    let zero : c.default.result ≡ mode_laid rules.no_mode = search needs in
    rw (c.entry_or.ensures, zero)
    (looked_up mode_seen mode_laid (λ x. refl) rules.no_mode refl (count_seen p 4) c.mode_count.result p.modes c.args.k
    c.mode_count.ensures.0)
