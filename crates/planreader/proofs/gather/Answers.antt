use Rattle.planreader.proofs.Gathering.{gathering_none, gathering_turn, gathering_unreadable, gathering_end}
use Rattle.planreader.proofs.gather.Goals as goal

pub loop-at-init : goal.loop-at-init
loop-at-init c = gathering_none c.requires

pub returns-in-Err : goal.returns-in-Err
returns-in-Err c =
    let h = gathering_unreadable c.loop-at.invariant c.loop-at-test.true c.line_end-stop.ensures.value
    (c.line_said.ensures.value, c.line_said.ensures.out_after) c.in-Err.is in
    record { value = h.0; out_after = h.1 }

pub loop-at-preserved : goal.loop-at-preserved
loop-at-preserved c =
    gathering_turn c.loop-at.invariant c.loop-at-test.true c.line_end-stop.ensures.value (c.line_said.ensures.value, c.line_said.ensures.out_after)
    c.in-Ok.is c.line_end-stop.ensures.within c.behind_end-at.ensures

pub returns : goal.returns
returns c =
    let h = gathering_end c.loop-at.invariant c.loop-at-test.false (c.finish.ensures.value, c.finish.ensures.out_after) in
    record { value = h.0; out_after = h.1 }
