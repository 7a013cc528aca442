-- Invariant: the modules so far passed (`Passed`).
use Rattle.laws.proofs.Turns.{Passed}
use Rattle.stationjudge.specs.Judging.{allowed_test}
use Rattle.stationjudge.proofs.not_allowed.Given as goal

abbrev pub invariant-loop-m : goal.invariant-loop-m
invariant-loop-m l = Passed (allowed_test l.modes l.changed l.module_count l.mode_count l.homes l.switches l.running l.ages) l.m
