-- Plain computation: `controls_of` unfolds to the record returned.
use mathlib.Core.Path.{refl}
use Rattle.keeping.specs.Keeping.{controls_of}
use Rattle.keeping.proofs.controls.Goals as goal

pub returns : goal.returns
unfolding controls_of
returns c = refl
