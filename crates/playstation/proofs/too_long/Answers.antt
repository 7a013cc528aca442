-- `too_long_line` unfolds, so that its length is known and the part written has it (`length-take-le`).
use native.Mathlib.Omega.{arith}
use lib.Seq.{length-take-le}
use mathlib.Core.Path.{sym}
use Rattle.text.specs.Text.{too_long_line}
use borrow.Author.Rules.{rules}
use Rattle.playstation.proofs.too_long.Goals as goal

pub slice_bounds-out-end : goal.slice_bounds-out-end
unfolding too_long_line
slice_bounds-out-end c = search rules

pub slice_bounds-end_with-end : goal.slice_bounds-end_with-end
unfolding too_long_line
slice_bounds-end_with-end c = sym (length-take-le _ _ (omega arith))
