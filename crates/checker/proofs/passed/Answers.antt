-- A plan that is not read (`way_unread`), one that is not laid out (`way_unlaid`), else what `passed_on` promises (`way_on`).
use mathlib.Core.Path.{refl}
use borrow.Author.Rules.{rules}
use Rattle.line.proofs.Reading.{sound-kept}
use Rattle.checker.proofs.Handing.{way_unread, way_unlaid, way_ready, way_on}
use Rattle.checker.proofs.passed.Goals as goal

pub returns-in_err-p : goal.returns-in_err-p
returns-in_err-p c =
    let a = c.args in
    let reads = rw c.is_for_consumers.ensures at c.read_in.ensures in
    way_unread a.plan.now a.table.now _ reads _ _ c.in_err-p.was (search rules) c.requires

pub of_plan-requires : goal.of_plan-requires
of_plan-requires c =
    record {
      plan_kept = sound-kept _ c.args.plan.now _ c.read_in.ensures c.in_ok-p.was;
      tasks_value = (c.requires.0, refl, c.requires.1);
    }

pub returns-in_err-line : goal.returns-in_err-line
returns-in_err-line c =
    let a = c.args in
    let reads = rw c.is_for_consumers.ensures at c.read_in.ensures in
    way_unlaid a.plan.now a.table.now _ reads c.in_ok-p.was c.of_plan.result c.of_plan.ensures _ _
    c.in_err-line.was (search rules) c.requires.2

pub passed_on-requires : goal.passed_on-requires
passed_on-requires c =
    let a = c.args in
    let reads = rw c.is_for_consumers.ensures at c.read_in.ensures in
    record {
      p_value =
          way_ready a.plan.now a.table.now _ reads c.in_ok-p.was c.of_plan.result c.of_plan.ensures
          c.in_ok-line.was;
      starts_value = c.requires.2;
    }

pub returns : goal.returns
returns c =
    let a = c.args in
    let reads = rw c.is_for_consumers.ensures at c.read_in.ensures in
    way_on a.plan.now a.table.now _ reads c.in_ok-p.was c.of_plan.result c.of_plan.ensures
    c.in_ok-line.was c.passed_on.ensures
