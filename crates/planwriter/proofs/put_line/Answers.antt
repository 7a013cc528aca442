-- Five pieces (`line-put`).
use Rattle.planwriter.proofs.Pieces.{line-put, unfilled}
use Rattle.planwriter.proofs.put_line.Goals as goal

pub returns-clause-out_after : goal.returns-clause-out_after
returns-clause-out_after c =
    let a = c.args in
    let itemed = c.put_items-filled_at.ensures.out_after in
    let first = rw c.first_of.ensures at c.put_name-items_at.ensures.out_after in
    line-put _ _ _ _ _ _ _ _ _ _ _ _ a.kind a.body.now _ a.k a.number
    (unfilled _ _ _ _ _ _ a.kind a.body.now c.saturating_sub.ensures first itemed) first itemed c.put_spaces-comment_at.ensures.buf_after
    c.put_comment-end.ensures.out_after c.put_bytes.ensures
