-- Invariant: no row so far breaks `gap_kept`; a turn is `first_bad-up_to_more`, a hit `scan_hit`, the end `scan_end`.
use Rattle.std.proofs.Common.{◌≡◌}
use Rattle.std.proofs.Math.Option.{none}
use Rattle.laws.specs.Lists.{first_bad, up_to}
use Rattle.datarows.specs.Rows.{gap_kept}
use Rattle.datarows.proofs.first_crowded.Given as goal

abbrev pub invariant-loop-k : goal.invariant-loop-k
invariant-loop-k l = first_bad (gap_kept l.starts l.stops l.last.0 l.gap.0) (up_to l.k) ≡ none
