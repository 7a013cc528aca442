-- Invariant: the count is at most the place, so that it does not overflow.
use Rattle.std.proofs.Common.{◌≤◌}
use Rattle.vectors.proofs.kept.Given as goal

abbrev pub invariant-loop-byte : goal.invariant-loop-byte
invariant-loop-byte l = l.count ≤ l.byte-index
