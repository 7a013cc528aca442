-- Invariant: the places so far are filled by `had_rule` (`Filled`).
use Rattle.laws.proofs.Turns.{Filled}
use Rattle.stationsteps.specs.Steps.{had_rule}
use Rattle.stationsteps.proofs.had_after.Given as goal

abbrev pub invariant-loop-t : goal.invariant-loop-t
invariant-loop-t l = Filled l.initial.flag-items (had_rule l.given l.changed l.ends l.homes l.initial.flag-items) l.t l.flag-items
