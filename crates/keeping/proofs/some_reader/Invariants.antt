-- Invariant: none of the readers below k reads the message (`Unread`); a turn is `unread_turn`, a hit `read_here`, the end `unread-end`.
use Rattle.keeping.proofs.Read.{Unread}
use Rattle.keeping.proofs.some_reader.Given as goal

abbrev pub invariant-loop-k : goal.invariant-loop-k
invariant-loop-k l = Unread l.counts l.periods l.task l.period l.deadline l.k
