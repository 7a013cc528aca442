-- Four exits: too long, a line that cannot be read, too little room, a plan; a law for each.
use Rattle.std.proofs.lemmas.Result.{err_from_is_err_and}
use Rattle.planreader.proofs.Answers.{long-answer, unreadable-answer, needs-answer, plan-answer}
use Rattle.planreader.proofs.read.Goals as goal

pub returns-then-text-gt-LONGEST : goal.returns-then-text-gt-LONGEST
returns-then-text-gt-LONGEST c =
    let h = long-answer c.args.text.now c.args.plan.now c.if-text-gt-LONGEST.true in
    record { value = h.0; plan_after = h.1 }

pub returns-in_err-needed : goal.returns-in_err-needed
returns-in_err-needed c =
    let h = unreadable-answer c.args.text.now c.args.plan.now c.if-text-gt-LONGEST.false c.gather.ensures.value c.in_err-needed.was in
    let p = err_from_is_err_and c.from_residual.result c.from_residual.ensures.1 in
    record { value = rw (p.1, p.2) h.0; plan_after = h.1 }

pub returns-then-plan-needed : goal.returns-then-plan-needed
returns-then-plan-needed c =
    let h = needs-answer c.args.text.now c.args.plan.now c.if-text-gt-LONGEST.false c.gather.ensures.value c.in_ok-needed.was c.if-plan-needed.true in
    record { value = h.0; plan_after = h.1 }

pub returns : goal.returns
returns c =
    let h = plan-answer c.args.text.now c.args.plan.now c.if-text-gt-LONGEST.false c.gather.ensures.value c.in_ok-needed.was c.if-plan-needed.false
    c.gather-2.ensures.out_after in
    record { value = h.0; plan_after = h.1 }
