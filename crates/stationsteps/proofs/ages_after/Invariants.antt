-- Invariant: the places so far are filled by `age_rule` (`Filled`).
use Rattle.laws.proofs.Turns.{Filled}
use Rattle.stationsteps.specs.Steps.{age_rule}
use Rattle.stationsteps.proofs.ages_after.Given as goal

abbrev pub invariant-loop-m : goal.invariant-loop-m
invariant-loop-m l = Filled l.initial.age-items (age_rule l.changed l.running l.periods l.initial.age-items) l.m l.age-items
