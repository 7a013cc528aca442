-- Invariant: no row so far breaks `release_kept`; a turn is `first_bad-up_to_more`, a hit `scan_hit`, the end `scan_end`.
use Rattle.std.proofs.Common.{◌≡◌}
use Rattle.std.proofs.Math.Option.{none}
use Rattle.laws.specs.Lists.{first_bad, up_to}
use Rattle.datarows.specs.Rows.{release_kept}
use Rattle.datarows.proofs.first_early.Given as goal

abbrev pub invariant-loop-k : goal.invariant-loop-k
invariant-loop-k l = first_bad (release_kept l.starts l.releases l.numbers) (up_to l.k) ≡ none
