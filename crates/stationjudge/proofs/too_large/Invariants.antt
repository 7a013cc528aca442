-- Invariant: the tasks so far passed (`Passed`).
use Rattle.laws.proofs.Turns.{Passed}
use Rattle.stationjudge.specs.Judging.{fits_test}
use Rattle.stationjudge.proofs.too_large.Given as goal

abbrev pub invariant-loop-t : goal.invariant-loop-t
invariant-loop-t l = Passed (fits_test l.results l.given l.sizes) l.t
