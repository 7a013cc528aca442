-- Invariant: the array holds those left of the first i connections (`left_laid`); one that is left is `left_more`, another `left-kept`.
use mathlib.Core.Path.{◌≡◌}
use lib.ListN.{take}
use Rattle.laws.specs.Lists.{keep}
use Rattle.plan.specs.Memory.{seen}
use Rattle.rules.specs.Traffic.{is_left}
use Rattle.bus.specs.Edition.{left_laid}
use Rattle.bus.proofs.Leaving.{left_with}
use Rattle.bus.proofs.edition.connections_left.Given as goal

abbrev pub invariant-loop-connection : goal.invariant-loop-connection
invariant-loop-connection l =
    (left_with l.count l.left ≡ left_laid (keep (is_left (seen l.fn.p)) (take l.connection-index (seen l.fn.p).connections)))
