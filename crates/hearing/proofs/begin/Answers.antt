-- It is begun where the answer is fine (`begun-heard`); the answer is no longer than the buffer (`length-take-le`).
use native.Mathlib.Omega.{arith}
use lib.Seq.{length-take-le}
use mathlib.Core.Path.{sym}
use Rattle.hearing.proofs.Answering.{begun-heard}
use Rattle.hearing.proofs.begin.Goals as goal

pub slice_bounds-say-end : goal.slice_bounds-say-end
slice_bounds-say-end c = sym (length-take-le _ _ (omega (arith, c.put_begun-length.ensures.few)))

pub returns : goal.returns
returns c =
    rw (← c.starting_of.ensures) (begun-heard _ c.begin-begun.ensures c.is_fine.ensures)
