-- Plain computation: `no_line` unfolded is the struct that is built.
use mathlib.Core.Path.{refl}
use Rattle.line.specs.Line.{no_line}
use Rattle.line.proofs.Line.none.Goals as goal

pub returns : goal.returns
unfolding no_line
returns c = refl
