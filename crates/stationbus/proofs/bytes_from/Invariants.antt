-- Invariant: the places so far are filled by `byte_from_rule` (`Filled`).
use Rattle.laws.proofs.Turns.{Filled}
use Rattle.stationbus.specs.Bus.{byte_from_rule, number_at}
use Rattle.stationbus.proofs.bytes_from.Given as goal

abbrev pub invariant-loop-m : goal.invariant-loop-m
invariant-loop-m l =
    Filled l.initial.byte-items (byte_from_rule l.sends l.nodes (number_at l.modes) l.sender l.initial.byte-items) l.m l.byte-items
