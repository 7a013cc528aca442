-- The head's definition computes to the bytes that are put.
use Rattle.text.specs.Text.{pad_left, pad_right, texts}
use Rattle.sheet.specs.Sheet.{column_of, head_line, name_at, sheet_line}
use Rattle.sheetlines.proofs.put_head.Goals as goal

pub returns-clause-buf_after : goal.returns-clause-buf_after
unfolding head_line sheet_line name_at column_of texts pad_left pad_right
returns-clause-buf_after c = c.put_bytes.ensures
