-- The part in front of the comment is the line without it (`uncommented_part`).
use mathlib.Core.Path.{sym}
use lib.Seq.{length-take-le}
use Rattle.text.proofs.Words.{uncommented_part}
use Rattle.sheetreader.specs.Memory.{line_said}
use Rattle.sheetreader.proofs.line_said.Goals as goal

pub slice_bounds-words_said-end : goal.slice_bounds-words_said-end
slice_bounds-words_said-end c = sym (length-take-le _ _ c.comment_start-end.ensures.within)

pub returns : goal.returns
unfolding line_said
returns c =
    rw (← uncommented_part c.args.line.now c.comment_start-end.ensures.value) c.words_said.ensures
