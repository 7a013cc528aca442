-- As many zeros have that length, uncounted (`zeros-length`).
use mathlib.Core.Path.{refl}
use Rattle.input.specs.Room.{zeros}
use Rattle.input.proofs.Zeros.{zeros-length}
use Rattle.hearing.proofs.answer_room.Goals as goal

pub returns : goal.returns
unfolding zeros
returns c = (refl, zeros-length 16384)
