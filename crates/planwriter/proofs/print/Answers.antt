-- Too long; refused; printed; without room: one law for each (`Ways`).
use Rattle.std.proofs.lemmas.Result.{err_from_is_err_and}
use Rattle.planwords.specs.PlanText.{plan_text}
use Rattle.planwriter.proofs.Ways.{may-whole, may_none, way_fits, way_lacks, way_broken, way_long}
use Rattle.planwriter.proofs.print.Goals as goal

pub returns-then-plan-gt-LONGEST_PLAN : goal.returns-then-plan-gt-LONGEST_PLAN
returns-then-plan-gt-LONGEST_PLAN c =
    let h = way_long c.args.plan.now c.args.text.now c.if-plan-gt-LONGEST_PLAN.true in
    record { value = h.0; left = h.1 }

pub put_lines-requires : goal.put_lines-requires
put_lines-requires c = (c.if-plan-gt-LONGEST_PLAN.false, may_none (plan_text c.args.plan.now))

pub put_lines-requires-2 : goal.put_lines-requires-2
put_lines-requires-2 c =
    (c.if-plan-gt-LONGEST_PLAN.false, may-whole (plan_text c.args.plan.now) c.args.text.now c.put_lines.ensures.value c.in_ok-length.was)

pub returns-in_err-length : goal.returns-in_err-length
returns-in_err-length c =
    let h = way_broken c.args.plan.now c.args.text.now c.if-plan-gt-LONGEST_PLAN.false c.put_lines.ensures.value c.in_err-length.was in
    let p = err_from_is_err_and c.from_residual.result c.from_residual.ensures.1 in
    record { value = rw (p.1, p.2) h.0; left = h.1 }

pub returns-then-text-length : goal.returns-then-text-length
returns-then-text-length c =
    let h = way_lacks c.args.plan.now c.args.text.now c.if-plan-gt-LONGEST_PLAN.false c.put_lines.ensures.value c.in_ok-length.was c.if-text-length.true in
    record { value = h.0; left = h.1 }

pub returns : goal.returns
returns c =
    let h = way_fits c.args.plan.now c.args.text.now c.if-plan-gt-LONGEST_PLAN.false c.put_lines.ensures.value c.in_ok-length.was c.if-text-length.false
    c.put_lines-2.ensures.left in
    record { value = h.0; left = h.1 }
