-- The test says that the room fits the buffer, so that the part lent has its length (`length-take-le`).
use mathlib.Core.Path.{sym}
use lib.Seq.{length-take-le}
use Rattle.vectors.proofs.make.Goals as goal

pub slice_bounds-make_in-end : goal.slice_bounds-make_in-end
slice_bounds-make_in-end c = sym (length-take-le _ _ c.if-room-le16384.true)
