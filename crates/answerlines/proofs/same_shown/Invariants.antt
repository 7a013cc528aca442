-- Invariant: the nodes below n show the same.
use Rattle.std.proofs.Common.{◌≡◌, ℕ, ◌<◌, true}
use Rattle.answerlines.specs.Writing.{same_on}
use Rattle.answerlines.proofs.same_shown.Given as goal

abbrev pub invariant-loop-n : goal.invariant-loop-n
invariant-loop-n l = (k : ℕ) → k < l.n → same_on l.a l.b k ≡ true
