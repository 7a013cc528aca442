-- Invariant: the words counted and those left are all words (`Counting`).
use Prim.Native.Nat.{◌-◌}
use lib.ListN.{length}
use Rattle.planreader.proofs.Holding.{Counting}
use Rattle.planreader.proofs.count_words.Given as goal

abbrev pub invariant-loop-word : goal.invariant-loop-word
invariant-loop-word l = Counting l.s l.at l.next l.count

abbrev pub decreases-loop-word : goal.decreases-loop-word
decreases-loop-word l = length l.s - l.next
