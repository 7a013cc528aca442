-- Invariant: the places so far are filled by `ends_rule` (`Filled`).
use mathlib.Core.Bool.{false}
use lib.ListN.{replicate}
use Rattle.laws.proofs.Turns.{Filled}
use Rattle.stationsteps.specs.Steps.{ends_rule}
use Rattle.stationsteps.proofs.ends_now.Given as goal

abbrev pub invariant-loop-t : goal.invariant-loop-t
invariant-loop-t l = Filled (replicate 32 false) (ends_rule l.runs l.modes l.ages l.homes) l.t l.end-items
