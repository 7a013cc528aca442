-- The part in front of the comment is the line without it (`uncommented_part`).
use Rattle.planwords.specs.TextPlan.{line_read}
use Rattle.text.proofs.Words.{uncommented_part}
use Rattle.planreader.specs.Memory.{line_stored}
use Rattle.planreader.proofs.line_said.Goals as goal

pub returns : goal.returns
unfolding line_read line_stored
returns c =
    rw (← uncommented_part c.args.line.now c.comment_start-end.ensures.value)
    record { value = c.words_said.ensures.value; out_after = c.words_said.ensures.out_after }
