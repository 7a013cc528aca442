-- Invariant: the flag says whether the bytes of the node so far passed (`Tested`).
use Rattle.laws.proofs.Turns.{Tested}
use Rattle.stationrange.specs.Ranges.{byte_test}
use Rattle.stationrange.proofs.bytes.Given as goal

abbrev pub invariant-loop-m : goal.invariant-loop-m
invariant-loop-m l = Tested (byte_test l.held l.modes l.node) l.m l.good
