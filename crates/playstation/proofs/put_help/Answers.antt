-- The bounds of the pieces add up to fewer bytes than are lent.
use native.Mathlib.Omega.{arith}
use lib.Seq.{length-take-le}
use mathlib.Core.Path.{sym}
use Rattle.playstation.proofs.put_help.Goals as goal

pub returns : goal.returns
returns c = λ room. (omega arith, sym (length-take-le _ _ (omega arith)))
