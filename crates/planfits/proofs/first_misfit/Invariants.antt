-- The invocations looked at keep the rules, and none is a repeat; none of the earlier ones looked at is the same run.
use Rattle.std.proofs.Common.{◌≡◌, false, Bool, None, take}
use Rattle.std.proofs.Math.Option.{none}
use Rattle.std.specs.List.{list_any}
use Rattle.laws.specs.Lists.{first_bad, up_to}
use Rattle.rules.specs.Plan.{invocation_keeps, same_run}
use Rattle.plan.specs.Memory.{seen, invocation_seen}
use Rattle.planfits.proofs.first_misfit.Given as goal

abbrev pub invariant-pairs : goal.invariant-pairs
invariant-pairs l = (first_bad (invocation_keeps (seen l.fn.p)) (up_to l.k) ≡ none) × (l.repeat ≡ None)

abbrev pub invariant-loop-other : goal.invariant-loop-other
invariant-loop-other l =
    (list_any (λ x. same_run (invocation_seen l.run) (invocation_seen x)) (take l.other-index l.other-items) ≡ false) × (l.repeat ≡ None)
