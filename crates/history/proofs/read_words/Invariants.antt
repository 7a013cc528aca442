-- Invariant: the words from here on complete what was read so far (`Wording`).
use lib.ListN.{length}
use Prim.Native.Nat.{◌-◌}
use Rattle.history.proofs.Wording.{Wording}
use Rattle.history.proofs.read_words.Given as goal

abbrev pub invariant-loop-from : goal.invariant-loop-from
invariant-loop-from l = Wording l.s l.read l.at

abbrev pub decreases-loop-from : goal.decreases-loop-from
decreases-loop-from l = length l.s - l.at
