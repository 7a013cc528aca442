-- Invariant: the nodes so far passed (`Tested`); each turn adds what `stationrange::bytes` promises.
use mathlib.Core.Bool.{true}
use Rattle.laws.proofs.Turns.{Tested}
use Rattle.stationrefusals.specs.Refusing.{held_test}
use Rattle.stationrefusals.proofs.bytes_in_range.Given as goal

abbrev pub invariant-loop-n : goal.invariant-loop-n
invariant-loop-n l = Tested (held_test l.held l.modes) l.n true
