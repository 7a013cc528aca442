-- The word and the spaces behind it are one (`kind-put`).
use Rattle.sheetlines.proofs.Pieces.{kind-put}
use Rattle.sheetlines.proofs.put_kind.Goals as goal

pub returns-clause-buf_after : goal.returns-clause-buf_after
returns-clause-buf_after c = kind-put _ _ _ _ _ _ _ c.saturating_sub.ensures c.put_bytes-end.ensures c.put_spaces.ensures.buf_after
