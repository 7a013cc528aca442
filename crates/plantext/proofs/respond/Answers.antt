-- Four exits: a text, refusal 1, too long, and more room needed, which never comes; a law for each.
use mathlib.Core.Path.{ap, ◌∙◌}
use native.Mathlib.Omega.{arith}
use Rattle.std.specs.Prelude.{Err}
use Rattle.plantext.proofs.Answers.{line_response, long_response, never_needs, text_response}
use Rattle.plantext.proofs.respond.Goals as goal

pub returns-in-Ok : goal.returns-in-Ok
returns-in-Ok c =
    let all =
    let a = c.args in
    text_response a.plan.now a.out.now c.requires (λ i. omega (arith, c.type_inv.plan i)) _ _ c.print.ensures.value c.print.ensures.left c.in-Ok.is c.done.ensures in
    record { out_after = all.0; status_value = all.1.0; prefix_len = all.1.1 }

pub returns-in-Err-Refused : goal.returns-in-Err-Refused
returns-in-Err-Refused c =
    let all =
    let a = c.args in
    line_response a.plan.now a.out.now c.requires (λ i. omega (arith, c.type_inv.plan i)) _ _ c.print.ensures.value c.print.ensures.left (c.in-Err-Refused.is ∙ ap Err c.in-Err-Refused.field-0-is) c.put_refusal.ensures.out_after
    (omega (arith, c.put_refusal.ensures.out_after.1, c.put_refusal.ensures.few)) c.refused.ensures in
    record { out_after = all.0; status_value = all.1.0; prefix_len = all.1.1 }

pub returns-in-Err-TooLong : goal.returns-in-Err-TooLong
returns-in-Err-TooLong c =
    let all =
    let a = c.args in
    long_response a.plan.now a.out.now c.requires (λ i. omega (arith, c.type_inv.plan i)) _ _ c.print.ensures.value c.print.ensures.left (c.in-Err-TooLong.is ∙ ap Err c.in-Err-TooLong.field-0-is) c.put_too_long.ensures c.refused-in-Err-TooLong.ensures in
    record { out_after = all.0; status_value = all.1.0; prefix_len = all.1.1 }

pub returns-in-Err-Needs : goal.returns-in-Err-Needs
returns-in-Err-Needs c =
    let a = c.args in
    never_needs a.plan.now a.out.now c.requires (λ i. omega (arith, c.type_inv.plan i)) _ _ c.print.ensures.value c.print.ensures.left (c.in-Err-Needs.is ∙ ap Err c.in-Err-Needs.field-0-is)
