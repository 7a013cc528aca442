-- The number and the place behind their words (`refusal_put`).
use Rattle.answerlines.proofs.Lines.{refusal_put}
use native.Mathlib.Omega.{arith}
use Rattle.answerlines.proofs.put_refusal.Goals as goal

pub returns : goal.returns
returns c =
    record { out_after = refusal_put c.args.out.now _ _ _ c.args.at c.put_marked-at_at.result c.put_marked-end.result c.put_bytes.result c.args.why c.number.ensures c.place.ensures c.put_marked-at_at.ensures.out_after c.put_marked-end.ensures.out_after c.put_bytes.ensures; few = omega arith }
