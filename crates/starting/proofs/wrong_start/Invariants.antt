-- Invariant: the places so far passed (`Passed`); a turn adds `starts_well`, a failed test is the first bad one (`passed_hit`).
use Rattle.laws.proofs.Turns.{Passed}
use Rattle.starting.specs.Starting.{start_test}
use Rattle.starting.proofs.wrong_start.Given as goal

abbrev pub invariant-loop-m : goal.invariant-loop-m
invariant-loop-m l = Passed (start_test l.starting l.module_count l.mode_count l.homes) l.m
