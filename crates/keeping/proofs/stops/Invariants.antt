-- Invariant: the stops below q are filled (`Filled`); a turn is `stop_is`, and `stop-fits` that the sum has 32 bits.
use lib.ListN.{replicate}
use Rattle.rules.specs.Limits.{most_frames}
use Rattle.laws.proofs.Turns.{Filled}
use Rattle.keeping.specs.Keeping.{stop_at}
use Rattle.keeping.proofs.stops.Given as goal

abbrev pub invariant-loop-q : goal.invariant-loop-q
invariant-loop-q l = Filled (replicate most_frames 0) (stop_at l.starts l.tasks l.times) l.q l.stops
