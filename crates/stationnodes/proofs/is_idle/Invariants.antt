-- Invariant: the flag says whether nothing so far lands or ends (`Tested`).
use Rattle.laws.proofs.Turns.{Tested}
use Rattle.stationnodes.specs.Nodes.{is_idle_at}
use Rattle.stationnodes.proofs.is_idle.Given as goal

abbrev pub invariant-loop-t : goal.invariant-loop-t
invariant-loop-t l = Tested (is_idle_at l.lands l.ends) l.t l.idle
