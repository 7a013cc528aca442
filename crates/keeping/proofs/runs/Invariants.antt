-- Invariant: the invocations from `left` on are stored (`Stored`); a turn is `stored_turn`, and `names` bounds its place.
use Rattle.plan.specs.Memory.{seen}
use Rattle.keeping.proofs.Filling.{Stored}
use Rattle.keeping.proofs.runs.Given as goal

abbrev pub invariant-loop-left : goal.invariant-loop-left
invariant-loop-left l = Stored (seen l.p) l.left l.runs
