-- Invariant: the places so far are filled by `taken_rule` (`Filled`).
use Rattle.laws.proofs.Turns.{Filled}
use Rattle.stationsteps.specs.Steps.{taken_rule}
use Rattle.stationsteps.proofs.take_given.Given as goal

abbrev pub invariant-loop-k : goal.invariant-loop-k
invariant-loop-k g l = (outside : _) → Filled l.initial.places (taken_rule l.values l.given l.initial.places outside) l.k l.places
