-- Invariant: what is stored and the rest of the rules' walk are the whole walk (`Walked`); a turn takes one task and deadline, and the root rises.
use Prim.Native.Nat.{◌-◌, ◌≤◌}
use Rattle.rules.specs.Limits.{most_frames}
use Rattle.bus.specs.Readers.{readers_seen}
use Rattle.frames.specs.Walk.{Ready, limit_of}
use Rattle.frames.proofs.Walking.{Walked}
use Rattle.frames.proofs.derive.Given as goal

abbrev pub invariant-loop-root : goal.invariant-loop-root
invariant-loop-root l =
    Ready (readers_seen l.reader_counts l.reader_periods) l.task l.period l.worst l.runs l.size l.cycle.0 × Walked (readers_seen l.reader_counts l.reader_periods) l.task l.period l.worst l.runs l.size l.cycle.0 l.initial.tasks l.initial.releases l.initial.deadlines l.tasks l.releases
    l.deadlines l.tree l.root l.count l.steps × (l.count ≤ most_frames)

abbrev pub decreases-loop-root : goal.decreases-loop-root
decreases-loop-root l =
    limit_of l.cycle.0 - l.root
