use Rattle.records.proofs.Steps.{body_within}
use Rattle.planwriter.proofs.LineByLine.{so_far_none, so_far_more, so_far_less, so_far_end, so_far_wrong}
use Rattle.planwriter.proofs.put_lines.Goals as goal

pub loop-kind-init : goal.loop-kind-init
loop-kind-init c = so_far_none _ _

pub body-body-requires : goal.body-body-requires
body-body-requires c = body_within _ _ _ _ c.next.ensures c.in-Record.is

pub loop-kind-smaller : goal.loop-kind-smaller
loop-kind-smaller c = so_far_less c.loop-kind.invariant c.next.ensures c.in-Record.is

pub loop-kind-preserved : goal.loop-kind-preserved
loop-kind-preserved c =
    so_far_more c.loop-kind.invariant c.next.ensures c.in-Record.is c.body-body.ensures c.count_of-before.ensures.0 c.count_of-before.ensures.1
    c.put_line-end.ensures.out_after c.put_line-end.ensures.few

pub returns-in-End : goal.returns-in-End
returns-in-End c = let h = so_far_end c.loop-kind.invariant c.next.ensures c.in-End.is in record { value = h.0; left = h.1 }

pub returns-in-Wrong : goal.returns-in-Wrong
returns-in-Wrong c = let h = so_far_wrong c.loop-kind.invariant c.next.ensures c.in-Wrong.is c.requires.1 in record { value = h.0; left = h.1 }
