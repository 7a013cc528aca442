use Rattle.std.proofs.Common.{arith}
use Rattle.text.proofs.Putting.{putting_none, putting_turn, putting_end}
use Rattle.meanings.specs.Meanings.{help_lines}
use Rattle.meanings.proofs.put_help_lines.Goals as goal

pub loop-i-init : goal.loop-i-init
loop-i-init c = record { few = omega arith; put = putting_none }

pub loop-i-preserved : goal.loop-i-preserved
loop-i-preserved c = record { few = omega arith; put = putting_turn c.loop-i.invariant.put c.put_help_line-next.ensures.out_after }

pub returns-clause-out_after : goal.returns-clause-out_after
unfolding help_lines
returns-clause-out_after c = putting_end c.loop-i.invariant.put c.loop-i.auto.i-end c.loop-i-test.false
