-- Invariant: i spaces are put (`Putting`); a turn is `putting_turn`, and behind the last they are all (`spaces-texts`).
use Rattle.std.proofs.Common.{◌+◌}
use Rattle.text.proofs.Putting.{Putting, one_space}
use Rattle.text.proofs.put_spaces.Given as goal

abbrev pub invariant-loop-i : goal.invariant-loop-i
invariant-loop-i l = Putting l.initial.buf l.at one_space l.i l.buf (l.at + l.i)
