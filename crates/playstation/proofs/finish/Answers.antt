-- The text is no longer than the buffer, so that the part written has its length (`length-take-le`).
use native.Mathlib.Omega.{arith}
use lib.Seq.{length-take-le}
use mathlib.Core.Path.{sym}
use Rattle.playstation.proofs.finish.Goals as goal

pub slice_bounds-out-end : goal.slice_bounds-out-end
slice_bounds-out-end c = omega (arith, c.closing-closed.ensures.few)

pub slice_bounds-end_with-end : goal.slice_bounds-end_with-end
slice_bounds-end_with-end c = sym (length-take-le _ _ (omega (arith, c.closing-closed.ensures.few)))
