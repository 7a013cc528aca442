-- Three pieces (`comment_put`).
use Rattle.planwriter.proofs.Pieces.{comment_put}
use Rattle.planwriter.proofs.put_comment.Goals as goal

pub returns-clause-out_after : goal.returns-clause-out_after
returns-clause-out_after c =
    let a = c.args in
    comment_put _ _ _ _ _ _ _ _ a.kind a.k a.number c.put_bytes-thing_at.ensures c.put_thing-record_at.ensures.out_after c.put_marked.ensures.out_after
