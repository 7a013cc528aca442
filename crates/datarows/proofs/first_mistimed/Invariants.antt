-- Invariant: no row so far breaks `time_kept`; a turn is `first_bad-up_to_more`, a hit `scan_hit`, the end `scan_end`.
use Rattle.std.proofs.Common.{◌≡◌}
use Rattle.std.proofs.Math.Option.{none}
use Rattle.laws.specs.Lists.{first_bad, up_to}
use Rattle.datarows.specs.Rows.{time_kept}
use Rattle.datarows.proofs.first_mistimed.Given as goal

abbrev pub invariant-loop-k : goal.invariant-loop-k
invariant-loop-k l = first_bad (time_kept l.tasks l.starts l.stops l.times l.resolution.0) (up_to l.k) ≡ none
