-- The spaces and the cell are one column (`column-put`).
use Rattle.std.proofs.Common.{◌-◌, ◌∙◌, ap}
use Rattle.sheetlines.proofs.Pieces.{column-put}
use Rattle.sheetlines.proofs.put_column.Goals as goal

pub returns-clause-buf_after : goal.returns-clause-buf_after
returns-clause-buf_after c =
    let filled = c.saturating_sub-spaces.ensures ∙ ap (◌-◌ c.args.width) c.cell_length.ensures.0 in
    column-put _ _ _ _ _ _ _ _ _ filled c.put_spaces-cell_at.ensures.buf_after c.put_cell.ensures
