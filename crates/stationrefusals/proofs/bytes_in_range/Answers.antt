use mathlib.Core.Path.{sym, ◌∙◌}
use Rattle.laws.proofs.Lists.{all-up_to-failed}
use Rattle.laws.proofs.Turns.{tested_none, tested_turn, tested_end}
use Rattle.stationrefusals.specs.Refusing.{held_test}
use Rattle.stationrefusals.proofs.bytes_in_range.Goals as goal

pub loop-n-init : goal.loop-n-init
loop-n-init c = tested_none

pub loop-n-preserved : goal.loop-n-preserved
loop-n-preserved c = tested_turn c.loop-n.invariant (sym c.if-not-bytes.false) c.bytes.ensures

pub returns-then-not-bytes : goal.returns-then-not-bytes
returns-then-not-bytes c =
    sym (all-up_to-failed (held_test c.args.held.now c.args.modes) 8 c.loop-n.n c.loop-n-test.true (sym c.bytes.ensures ∙ c.if-not-bytes.true))

pub returns : goal.returns
returns c = tested_end c.loop-n.invariant c.loop-n.auto.n-end c.loop-n-test.false
