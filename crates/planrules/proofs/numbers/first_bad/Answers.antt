use native.Mathlib.Omega.{arith}
use Rattle.records.proofs.Steps.{body_within}
use Rattle.planrules.proofs.RecordScan.{scanned-none, scanned_more, scanned-end, scanned-wrong, scanned-number, scanned_less}
use Rattle.planrules.proofs.numbers.first_bad.Goals as goal

pub loop-kind-init : goal.loop-kind-init
loop-kind-init c = (scanned-none c.requires, scanned-none c.requires)

pub body-body-requires : goal.body-body-requires
body-body-requires c =
    body_within _ _ _ _ c.next.ensures c.in-Record.is

pub overflow_add-n : goal.overflow_add-n
overflow_add-n c =
    omega (
      arith,
      scanned-number c.loop-kind.invariant.0 c.next.ensures c.in-Record.is,
      c.well_formed.0.0,
    )

pub loop-kind-smaller : goal.loop-kind-smaller
loop-kind-smaller c =
    scanned_less c.loop-kind.invariant.0 c.next.ensures c.in-Record.is

pub loop-kind-preserved : goal.loop-kind-preserved
loop-kind-preserved c =
    let l = c.loop-kind in (
      scanned_more l.invariant.0 c.next.ensures c.in-Record.is c.body-body.ensures c.names_are_there.ensures
          c.earlier-named.ensures,
      scanned_more l.invariant.1 c.next.ensures c.in-Record.is c.body-body.ensures c.numbers_are_within.ensures c.earlier-ranged.ensures,
    )

pub returns-in-End : goal.returns-in-End
returns-in-End c =
    rw (
      scanned-end c.loop-kind.invariant.0 c.next.ensures c.in-End.is,
      scanned-end c.loop-kind.invariant.1 c.next.ensures c.in-End.is,
    )

pub returns-in-Wrong : goal.returns-in-Wrong
returns-in-Wrong c =
    scanned-wrong c.loop-kind.invariant.0 c.next.ensures c.in-Wrong.is
