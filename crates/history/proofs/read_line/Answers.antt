-- The part in front of the comment is the line without it (`uncommented_part`).
use mathlib.Core.Path.{sym}
use lib.Seq.{length-take-le}
use Rattle.history.proofs.Wording.{uncommented_part}
use Rattle.history.specs.Reading.{read_line}
use Rattle.history.proofs.read_line.Goals as goal

pub slice_bounds-read_words-end : goal.slice_bounds-read_words-end
slice_bounds-read_words-end c = sym (length-take-le _ _ c.comment_start-end.ensures.within)

pub returns : goal.returns
unfolding read_line
returns c =
    rw (← uncommented_part c.args.s.now c.comment_start-end.ensures.value) c.read_words.ensures
