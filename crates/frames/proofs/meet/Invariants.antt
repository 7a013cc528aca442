-- Invariant: `best` is at least the ends of the runs already past, at most the latest of all (`Taking`); a turn raises the root.
use Prim.Native.Nat.{suc, ◌-◌, ◌*◌}
use Rattle.rules.specs.Direct.{place_of}
use Rattle.bus.specs.Readers.{readers_seen}
use Rattle.frames.proofs.Meeting.{Taking}
use Rattle.frames.proofs.meet.Given as goal

abbrev pub invariant-loop-root : goal.invariant-loop-root
invariant-loop-root l =
    Taking (readers_seen l.reader_counts l.reader_periods) l.task l.period l.worst l.runs l.size l.last l.d.0 l.t.0 l.tree l.root l.best l.taken

abbrev pub decreases-loop-root : goal.decreases-loop-root
decreases-loop-root l = suc (place_of l.d.0 l.t.0) * 64 - l.root
