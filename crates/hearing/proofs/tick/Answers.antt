-- The answer is no longer than the room, so that the part written has its length (`length-take-le`).
use native.Mathlib.Omega.{arith}
use lib.Seq.{length-take-le}
use mathlib.Core.Path.{sym}
use Rattle.hearing.proofs.tick.Goals as goal

pub slice_bounds-say-end : goal.slice_bounds-say-end
slice_bounds-say-end c =
    sym (length-take-le _ _ (omega (arith, c.answer_tick-answered.ensures.few)))
