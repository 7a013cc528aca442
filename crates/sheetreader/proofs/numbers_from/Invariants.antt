-- Invariant: the numbers so far in front of those of the forms and words left are all of them (`Numbering`).
use Rattle.sheetreader.proofs.Numbering.{Numbering}
use Rattle.sheetreader.proofs.numbers_from.Given as goal

abbrev pub invariant-loop-k : goal.invariant-loop-k
invariant-loop-k l = Numbering l.s l.at l.forms l.values l.next l.k
