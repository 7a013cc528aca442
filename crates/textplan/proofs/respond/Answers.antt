-- Four exits: a plan, a line that cannot be read, too long, and more room needed, which never comes; a law for each.
use mathlib.Core.Path.{ap, ◌∙◌}
use Rattle.std.specs.Prelude.{Err}
use Rattle.textplan.proofs.Answers.{line_response, long_response, never_needs, plan_response}
use Rattle.textplan.proofs.respond.Goals as goal

pub returns-in-Ok : goal.returns-in-Ok
returns-in-Ok c =
    let all =
    let a = c.args in
    plan_response a.lines.now a.out.now c.requires _ _ c.read.ensures.value c.read.ensures.plan_after c.in-Ok.is c.done.ensures in
    record { out_after = all.0; status_value = all.1.0; prefix_len = all.1.1 }

pub returns-in-Err-Unreadable : goal.returns-in-Err-Unreadable
returns-in-Err-Unreadable c =
    let all =
    let a = c.args in
    line_response a.lines.now a.out.now c.requires _ _ c.read.ensures.value c.read.ensures.plan_after (c.in-Err-Unreadable.is ∙ ap Err c.in-Err-Unreadable.field-0-is)
    c.put_unreadable.ensures.out_after c.put_unreadable.ensures.few c.refused.ensures in
    record { out_after = all.0; status_value = all.1.0; prefix_len = all.1.1 }

pub returns-in-Err-TooLong : goal.returns-in-Err-TooLong
returns-in-Err-TooLong c =
    let all =
    let a = c.args in
    long_response a.lines.now a.out.now c.requires _ _ c.read.ensures.value c.read.ensures.plan_after (c.in-Err-TooLong.is ∙ ap Err c.in-Err-TooLong.field-0-is)
    c.put_too_long.ensures c.refused-in-Err-TooLong.ensures in
    record { out_after = all.0; status_value = all.1.0; prefix_len = all.1.1 }

pub returns-in-Err-Needs : goal.returns-in-Err-Needs
returns-in-Err-Needs c =
    let a = c.args in
    never_needs a.lines.now a.out.now c.requires _ _ c.read.ensures.value c.read.ensures.plan_after (c.in-Err-Needs.is ∙ ap Err c.in-Err-Needs.field-0-is)
