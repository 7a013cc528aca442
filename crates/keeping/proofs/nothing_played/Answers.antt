-- By computation.
use Rattle.station.specs.Memory.{not_begun}
use mathlib.Core.Path.{refl}
use Rattle.keeping.proofs.nothing_played.Goals as goal

pub returns : goal.returns
unfolding not_begun
returns c = refl
