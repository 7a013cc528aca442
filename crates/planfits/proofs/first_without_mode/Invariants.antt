-- The modules looked at have a mode.
use Rattle.std.proofs.Common.{◌≡◌}
use Rattle.std.proofs.Math.Option.{none}
use Rattle.laws.specs.Lists.{first_bad, up_to}
use Rattle.rules.specs.Plan.{has_mode}
use Rattle.plan.specs.Memory.{seen}
use Rattle.planfits.proofs.first_without_mode.Given as goal

abbrev pub invariant-loop-m : goal.invariant-loop-m
invariant-loop-m l = first_bad (has_mode (seen l.fn.p)) (up_to l.m) ≡ none
