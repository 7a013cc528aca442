-- The counts looked at are within their ranges.
use Rattle.std.proofs.Common.{◌≡◌}
use Rattle.std.proofs.Math.Option.{none}
use Rattle.laws.specs.Lists.{first_bad, up_to}
use Rattle.planrules.specs.Tests.{counts_fit}
use Rattle.planrules.proofs.counts.first_bad.Given as goal

abbrev pub invariant-loop-k : goal.invariant-loop-k
invariant-loop-k l = first_bad (counts_fit l.fn.counts) (up_to l.k) ≡ none
