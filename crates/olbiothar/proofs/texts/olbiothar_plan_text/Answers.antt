-- The answer by its definition, the lent bytes as the callee left them.
use Rattle.olbiothar.proofs.texts.olbiothar_plan_text.Goals as goal

pub returns : goal.returns
returns c =
    let made = c.print-printed.ensures in
    record { value = rw (c.text_said.ensures, made.value); text_after = made.left }
