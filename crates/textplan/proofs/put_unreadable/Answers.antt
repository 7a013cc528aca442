-- Four pieces one behind the other (`unreadable-put`); the bounds of the pieces add up.
use native.Mathlib.Omega.{arith}
use Rattle.textplan.proofs.Answers.{unreadable-put}
use Rattle.textplan.proofs.put_unreadable.Goals as goal

pub returns : goal.returns
returns c =
    let a = c.args in record { out_after = unreadable-put a.out.now _ _ _ _ _ _ _ _ a.unread.line a.unread.why c.put_marked-colon_at.ensures.out_after c.put_bytes-why_at.ensures c.put_reason-end.ensures.out_after c.put_bytes.ensures; few = omega (arith, c.put_marked-colon_at.ensures.few, c.put_bytes-why_at.ensures.1, c.put_reason-end.ensures.few, c.put_bytes.ensures.1) }
