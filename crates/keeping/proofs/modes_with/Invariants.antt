-- Invariant: the bits of the modes from `left` on (`Built`); a turn is `built_turn`, and `built_room` is what `with_bit` requires.
use Rattle.keeping.specs.Keeping.{has_message}
use Rattle.keeping.proofs.Words.{Built}
use Rattle.keeping.proofs.modes_with.Given as goal

abbrev pub invariant-loop-left : goal.invariant-loop-left
invariant-loop-left l = Built (has_message l.runs l.counts l.periods l.task l.deadline) l.left l.bits
