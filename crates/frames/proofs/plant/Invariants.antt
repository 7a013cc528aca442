-- Invariant: the first i runs have their keys, the rest the limit (`Planting`); each turn is `planting_more`.
use Rattle.bus.specs.Readers.{readers_seen}
use Rattle.frames.proofs.Meeting.{Planting}
use Rattle.frames.proofs.plant.Given as goal

abbrev pub invariant-loop-i : goal.invariant-loop-i
invariant-loop-i l =
    Planting (readers_seen l.reader_counts l.reader_periods) l.task l.period l.worst l.runs l.size l.last l.tree l.i
