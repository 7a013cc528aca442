-- The three pieces are one line (`cycle-put`).
use Rattle.text.specs.Text.{marked}
use Rattle.text.proofs.Putting.{Put}
use Rattle.std.proofs.Common.{[], ◌∷◌, ◌++◌}
use Rattle.sheet.specs.Sheet.{cycle_word}
use Rattle.sheetlines.proofs.Pieces.{cycle-put}
use Rattle.sheetlines.proofs.put_cycle.Goals as goal

pub returns-clause-buf_after : goal.returns-clause-buf_after
returns-clause-buf_after c =
    let period : Put c.args.buf.now c.args.at (marked (cycle_word ++ (32 ∷ [])) c.args.period) c.put_marked-edition_at.new.out c.put_marked-edition_at.result =
    rw c.from.ensures at c.put_marked-edition_at.ensures.out_after in
    cycle-put _ _ _ _ _ _ _ _ _ _ period c.put_edition-comment_at.ensures.buf_after c.put_bytes.ensures
