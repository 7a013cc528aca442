-- Invariant: `next` is the least by the readers in front of the i-th (`Looked`); it is that of all once it is the run's next end.
use Rattle.frames.proofs.Reading.{Looked}
use Rattle.frames.proofs.next_read.Given as goal

abbrev pub invariant-loop-i : goal.invariant-loop-i
invariant-loop-i l = Looked l.reader_counts l.reader_periods l.place l.period l.first l.i l.next
