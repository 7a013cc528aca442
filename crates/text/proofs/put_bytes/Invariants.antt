-- Invariant: the first i bytes of s are stored; a turn is `put_byte`, and behind the last that is all of s (`take_all`).
use Rattle.std.proofs.Common.{◌≡◌, take}
use Rattle.std.proofs.Math.Seq.{sets}
use Rattle.text.proofs.put_bytes.Given as goal

abbrev pub invariant-loop-i : goal.invariant-loop-i
invariant-loop-i l = l.buf ≡ sets l.initial.buf l.at (take l.i l.s)
