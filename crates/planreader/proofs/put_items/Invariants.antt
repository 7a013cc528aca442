-- Invariant: what is stored, and what is left of the items and the words, come to what all of them do (`Holding`).
use Rattle.planwords.specs.Items.{items_of}
use Rattle.planreader.proofs.Holding.{Holding}
use Rattle.planreader.proofs.put_items.Given as goal

abbrev pub invariant-loop-item : goal.invariant-loop-item
invariant-loop-item l = Holding l.s l.from (items_of l.kind) l.initial.out l.at l.out l.next l.end l.item-index
