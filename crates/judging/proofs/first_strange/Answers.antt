use Rattle.std.proofs.Common.{sym, ◌∙◌}
use Rattle.laws.proofs.Loops.{first_bad-up_to_more}
use Rattle.rules.specs.Checker.{same_control}
use Rattle.table.specs.Rows.{control_in}
use Rattle.judging.specs.Judged.{controls_same}
use Rattle.naming.proofs.Places.{scan_hit}
use Rattle.judging.proofs.first_strange.Goals as goal

pub returns-then-not-same_control : goal.returns-then-not-same_control
unfolding controls_same same_control control_in
returns-then-not-same_control c =
    let a = c.args in
    scan_hit (controls_same (control_in a.control_nodes.now a.control_starts.now a.control_stops.now)
    (control_in a.fixed_nodes.now a.fixed_starts.now a.fixed_stops.now)) c.loop-k.invariant c.loop-k-test.true
    (sym c.same_control.ensures ∙ c.if-not-same_control.true)

pub loop-k-preserved : goal.loop-k-preserved
unfolding controls_same same_control control_in
loop-k-preserved c =
    let a = c.args in
    first_bad-up_to_more
    (controls_same (control_in a.control_nodes.now a.control_starts.now a.control_stops.now)
    (control_in a.fixed_nodes.now a.fixed_starts.now a.fixed_stops.now)) _ c.loop-k.invariant
    (sym c.same_control.ensures ∙ c.if-not-same_control.false)
