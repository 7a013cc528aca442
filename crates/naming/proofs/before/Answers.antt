use Rattle.std.proofs.Common.{arith}
use Rattle.naming.specs.Places.{key_at}
use Rattle.naming.proofs.Names.{bracket_up, bracket_down}
use Rattle.naming.proofs.before.Goals as goal

pub loop-low-preserved-then-key-wanted : goal.loop-low-preserved-then-key-wanted
unfolding key_at
loop-low-preserved-then-key-wanted c =
    bracket_up _ _ _ _ c.requires c.loop-low.low c.loop-low.high _ c.loop-low.invariant (omega arith)
    (omega (arith, c.loop-low-test.true)) (omega (arith, c.key.ensures, c.if-key-wanted.true))

pub loop-low-preserved : goal.loop-low-preserved
unfolding key_at
loop-low-preserved c =
    bracket_down _ _ _ _ c.requires c.loop-low.low c.loop-low.high _ c.loop-low.invariant (omega arith)
    (omega (arith, c.loop-low-test.true)) (omega (arith, c.key.ensures, c.if-key-wanted.false))
