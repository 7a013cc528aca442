use native.Mathlib.Omega.{arith}
use Rattle.keeping.proofs.Words.{built_none, built_room, built_turn, built_all}
use Rattle.keeping.proofs.modes_with.Goals as goal

pub loop-left-init : goal.loop-left-init
loop-left-init c = built_none

pub has_message-requires : goal.has_message-requires
has_message-requires c =
    (c.requires.0, omega (arith, c.loop-left.invariant.few, c.loop-left-test.true), c.requires.1)

pub with_bit-bits-requires : goal.with_bit-bits-requires
with_bit-bits-requires c = built_room c.loop-left.invariant c.loop-left-test.true

pub loop-left-preserved : goal.loop-left-preserved
loop-left-preserved c =
    built_turn c.loop-left.invariant c.loop-left-test.true c.has_message.ensures c.with_bit-bits.ensures

pub returns : goal.returns
returns c = built_all c.loop-left.invariant c.loop-left-test.false
