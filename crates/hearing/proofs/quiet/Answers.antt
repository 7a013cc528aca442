use mathlib.Core.Path.{sym}
use Rattle.stationruns.specs.Inputs.{no_input}
use Rattle.station.specs.Memory.{ruled}
use Rattle.hearing.proofs.Ticking.{going_none, going_turn, going_refused, going_end, same-room}
use Rattle.hearing.specs.Heard.{after_nothing, quiet_said}
use Prim.Native.Nat.{◌+◌}
use native.Mathlib.Omega.{arith}
use lib.Seq.{length-take-le}
use borrow.Author.Rules.{rules}
use Rattle.hearing.proofs.quiet.Goals as goal

pub loop-k-init : goal.loop-k-init
loop-k-init c = (going_none, c.answer_room-out.ensures.1)

pub slice_bounds-answer_quiet-end : goal.slice_bounds-answer_quiet-end
slice_bounds-answer_quiet-end c = search (rules, c.loop-k.invariant.1)

pub slice_bounds-say-end : goal.slice_bounds-say-end
slice_bounds-say-end c =
    sym (length-take-le _ _ (omega (arith, c.answer_quiet-answered.ensures.few)))

pub returns-then-answered : goal.returns-then-answered
unfolding after_nothing
returns-then-answered c =
    going_refused c.loop-k.invariant.0 c.answer_quiet-answered.ensures.station_value (c.answer_quiet-answered.ensures.stays c.if-answered.true)

pub loop-k-preserved : goal.loop-k-preserved
unfolding after_nothing
loop-k-preserved c =
    (going_turn c.loop-k.invariant.0 c.loop-k-test.true c.answer_quiet-answered.ensures.station_value, same-room c.loop-k.out (quiet_said (c.loop-k.k + 1) c.args.rows c.loop-k.station (ruled c.loop-k.station no_input)) c.answer_quiet-answered.ensures.text.0 c.loop-k.invariant.1)

pub returns : goal.returns
returns c = going_end c.loop-k.invariant.0 (omega arith)
