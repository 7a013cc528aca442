-- The connections looked at keep the rules.
use Rattle.std.proofs.Common.{◌≡◌}
use Rattle.std.proofs.Math.Option.{none}
use Rattle.laws.specs.Lists.{first_bad, up_to}
use Rattle.rules.specs.Plan.{connection_keeps}
use Rattle.plan.specs.Memory.{seen}
use Rattle.planfits.proofs.first_doubtful.Given as goal

abbrev pub invariant-loop-k : goal.invariant-loop-k
invariant-loop-k l = first_bad (connection_keeps (seen l.fn.p).connections) (up_to l.k) ≡ none
