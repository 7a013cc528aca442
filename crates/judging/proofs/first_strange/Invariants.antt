-- Invariant: the control rows so far are as fixed; a turn is `first_bad-up_to_more`, a hit `scan_hit`.
use Rattle.std.proofs.Common.{◌≡◌}
use Rattle.std.proofs.Math.Option.{none}
use Rattle.laws.specs.Lists.{first_bad, up_to}
use Rattle.table.specs.Rows.{control_in}
use Rattle.judging.specs.Judged.{controls_same}
use Rattle.judging.proofs.first_strange.Given as goal

abbrev pub invariant-loop-k : goal.invariant-loop-k
invariant-loop-k l =
    first_bad (controls_same (control_in l.control_nodes l.control_starts l.control_stops) (control_in l.fixed_nodes l.fixed_starts l.fixed_stops)) (up_to l.k) ≡ none
