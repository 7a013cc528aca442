use Rattle.std.proofs.Common.{arith}
use Rattle.records.proofs.Steps.{body_within}
use Rattle.plangather.proofs.SoFar.{so_far_none, so_far_more, so_far_number, so_far_less, so_far_end, so_far_wrong}
use Rattle.plangather.proofs.gather.Goals as goal

pub loop-kind-init : goal.loop-kind-init
loop-kind-init c = rw c.empty-p.ensures (so_far_none _)

pub body-requires : goal.body-requires
body-requires c = body_within _ _ _ _ c.next.ensures c.in-Record.is

pub take_in-requires : goal.take_in-requires
take_in-requires c =
    omega (arith, so_far_number c.loop-kind.invariant c.next.ensures c.in-Record.is, c.well_formed.0.0)

pub loop-kind-smaller : goal.loop-kind-smaller
loop-kind-smaller c = so_far_less c.loop-kind.invariant c.next.ensures c.in-Record.is

pub loop-kind-preserved : goal.loop-kind-preserved
loop-kind-preserved c =
    so_far_more c.loop-kind.invariant c.next.ensures c.in-Record.is c.body.ensures c.take_in.ensures

pub returns-in-End : goal.returns-in-End
returns-in-End c = so_far_end c.loop-kind.invariant c.next.ensures c.in-End.is

pub returns-in-Wrong : goal.returns-in-Wrong
returns-in-Wrong c = so_far_wrong c.loop-kind.invariant c.next.ensures c.in-Wrong.is
