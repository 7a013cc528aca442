-- Invariant: the first m places are filled as the definition says (`Filled`); behind the last all are (`filled-end`).
use Rattle.laws.proofs.Turns.{Filled}
use Rattle.history.specs.Reading.{mode_in}
use Rattle.history.proofs.modes_of.Given as goal

abbrev pub invariant-loop-m : goal.invariant-loop-m
invariant-loop-m l = Filled l.initial.modes (mode_in l.values) l.m l.modes
