-- Invariant: the words below q are filled (`Filled`); a turn is the promise of `modes_with`.
use lib.ListN.{replicate}
use Rattle.rules.specs.Limits.{most_frames}
use Rattle.laws.proofs.Turns.{Filled}
use Rattle.keeping.specs.Keeping.{modes_at}
use Rattle.keeping.proofs.pair_modes.Given as goal

abbrev pub invariant-loop-q : goal.invariant-loop-q
invariant-loop-q l = Filled (replicate most_frames 0) (modes_at l.runs l.counts l.periods l.tasks l.deadlines) l.q l.modes
