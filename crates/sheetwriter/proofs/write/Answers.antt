-- A plan that is not read (`way_unread`), one that is not laid out (`way_unlaid`), else what `by_plan` promises (`way_on`); it is read in the
-- edition that the table's first byte says.
use mathlib.Core.Path.{refl}
use native.Mathlib.Omega.{arith}
use Rattle.line.proofs.Reading.{sound-kept}
use Rattle.sheetwriter.proofs.Ways.{way_unread, way_unlaid, way_ready, way_on}
use Rattle.sheetwriter.proofs.write.Goals as goal

pub returns-in-Err : goal.returns-in-Err
returns-in-Err c =
    let a = c.args in
    let read = rw c.is_for_consumers.ensures at c.read_in.ensures in record { writes = way_unread a.plan.now a.table.now _ read _ c.in-Err.is c.refused.ensures.prints; few = omega (arith, c.refused.ensures.few) }

pub of_plan-requires : goal.of_plan-requires
of_plan-requires c =
    let a = c.args in
    record { plan_kept = sound-kept _ a.plan.now _ c.read_in.ensures c.in-Ok.is; tasks_value = (refl, refl, refl) }

pub returns-in-Err-of_plan : goal.returns-in-Err-of_plan
returns-in-Err-of_plan c =
    let a = c.args in
    let read = rw c.is_for_consumers.ensures at c.read_in.ensures in record {
      writes = way_unlaid a.plan.now a.table.now _ read c.in-Ok.is _ c.of_plan.ensures _
          c.in-Err-of_plan.is c.refused-in-Err-of_plan.ensures.prints;
      few = omega (arith, c.refused-in-Err-of_plan.ensures.few);
    }

pub by_plan-requires : goal.by_plan-requires
by_plan-requires c =
    let a = c.args in
    let read = rw c.is_for_consumers.ensures at c.read_in.ensures in
    way_ready a.plan.now a.table.now _ read c.in-Ok.is _ c.of_plan.ensures
    c.in-Ok-of_plan.is

pub returns : goal.returns
returns c =
    let a = c.args in
    let read = rw c.is_for_consumers.ensures at c.read_in.ensures in record {
      writes = way_on a.plan.now a.table.now _ read c.in-Ok.is _ c.of_plan.ensures
          c.in-Ok-of_plan.is c.by_plan.ensures.prints;
      few = c.by_plan.ensures.few;
    }
