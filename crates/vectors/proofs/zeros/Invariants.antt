-- Invariant: the count is at most the place, so that it does not overflow.
use Rattle.std.proofs.Common.{◌≤◌}
use Rattle.vectors.proofs.zeros.Given as goal

abbrev pub invariant-loop-k : goal.invariant-loop-k
invariant-loop-k l = l.count ≤ l.k
