-- The entry of the part that is counted is the module that is seen, laid again (`looked_up`).
use Rattle.std.proofs.Common.{◌≡◌, refl, rules as needs}
use Rattle.plan.specs.Memory.{module_laid, module_seen, seen, count_seen}
use Rattle.plan.proofs.Parts.{looked_up}
use Rattle.plan.proofs.look.module_at.Goals as goal

pub returns : goal.returns
unfolding module_laid module_seen seen count_seen
returns c =
    let p = c.args.p in
    let zero : c.default.result ≡ module_laid 0 = search needs in
    rw (c.entry_or.ensures, zero)
    (looked_up module_seen module_laid (λ x. refl) 0 refl (count_seen p 3) c.module_count.result p.modules c.args.k
    c.module_count.ensures.0)
