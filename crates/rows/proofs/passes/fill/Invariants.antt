-- Invariant: the first k rows are the frames by number, over zero rows (`stores`).
use Rattle.std.proofs.Common.{◌≡◌}
use Rattle.laws.specs.Loops.{stores}
use Rattle.rows.specs.Frames.{rows_with, frame_in}
use Rattle.rows.proofs.passes.fill.Given as goal

abbrev pub invariant-loop-k : goal.invariant-loop-k
invariant-loop-k l = l.rows ≡ stores l.initial.rows (frame_in (rows_with l.frames l.tasks l.releases l.deadlines l.starts)) l.k
