-- Invariant: the places so far are filled by `full_still` (`Filled`).
use Rattle.laws.proofs.Turns.{Filled}
use Rattle.stationbus.specs.Bus.{full_still}
use Rattle.stationbus.proofs.full_kept.Given as goal

abbrev pub invariant-loop-flag : goal.invariant-loop-flag
invariant-loop-flag l = Filled l.initial.flag-items (full_still l.initial.flag-items) l.flag-index l.flag-items
