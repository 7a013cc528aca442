-- The answer by its definition, the lent bytes as the callee left them.
use Rattle.olbiothar.proofs.texts.olbiothar_text_plan.Goals as goal

pub returns : goal.returns
returns c =
    let made = c.read-back.ensures in
    record { value = rw (c.plan_said.ensures, made.value); plan_after = made.plan_after }
