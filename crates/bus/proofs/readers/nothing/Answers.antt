-- Plain computation.
use mathlib.Core.Path.{refl}
use Rattle.bus.specs.Readers.{row_laid}
use Rattle.bus.proofs.readers.nothing.Goals as goal

pub returns : goal.returns
unfolding row_laid
returns c = refl
