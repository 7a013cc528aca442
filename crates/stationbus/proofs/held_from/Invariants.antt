-- Invariant: the places so far are filled by `held_at` (`Filled`).
use Rattle.laws.proofs.Turns.{Filled}
use Rattle.stationbus.specs.Bus.{held_at}
use Rattle.stationbus.proofs.held_from.Given as goal

abbrev pub invariant-loop-place : goal.invariant-loop-place
invariant-loop-place l = Filled l.initial.byte-items (held_at l.sends l.nodes l.bytes l.sender l.initial.byte-items) l.place l.byte-items
