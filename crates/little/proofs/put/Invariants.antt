-- What is still to be stored, put behind what is stored, comes to all of it.
use Rattle.std.proofs.Common.{◌≡◌, ◌+◌, drop}
use Rattle.std.proofs.lemmas.List.Edits.{sets}
use Rattle.little.proofs.put.Given as goal

abbrev pub invariant-loop-k : goal.invariant-loop-k
invariant-loop-k l = sets l.buf (l.at + l.k) (drop l.k l.bytes) ≡ sets l.initial.buf l.at l.bytes
