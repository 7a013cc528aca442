-- Invariant: the rows so far are new, and their `marks` are set; a row past the frames or marked is the hit (`scan_hit`).
use Rattle.std.proofs.Common.{◌≡◌}
use Rattle.std.proofs.Math.Option.{none}
use Rattle.laws.specs.Lists.{first_bad, up_to}
use Rattle.naming.specs.Places.{marks, is_new}
use Rattle.naming.proofs.first_unnamed.Given as goal

abbrev pub invariant-loop-k : goal.invariant-loop-k
invariant-loop-k l =
    record { marked : l.named ≡ marks l.numbers l.k; new : first_bad (is_new l.numbers l.frames) (up_to l.k) ≡ none }
