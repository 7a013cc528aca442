-- Invariant: the flag says whether the modules so far passed (`Tested`).
use Rattle.laws.proofs.Turns.{Tested}
use Rattle.stationrange.specs.Ranges.{play_test}
use Rattle.stationrange.proofs.plays.Given as goal

abbrev pub invariant-loop-m : goal.invariant-loop-m
invariant-loop-m l = Tested (play_test l.modules l.modes l.homes l.periods l.running l.ages l.bytes) l.m l.good
