-- Two numbers behind their words, and the line's end (`times-put`).
use Rattle.answerlines.proofs.Lines.{times-put}
use native.Mathlib.Omega.{arith}
use Rattle.answerlines.proofs.put_times.Goals as goal

pub returns : goal.returns
returns c =
    record { out_after = times-put c.args.out.now _ _ _ c.args.at c.put_marked-stop_at.result c.put_marked-end.result c.put_bytes.result c.args.start c.args.stop c.put_marked-stop_at.ensures.out_after c.put_marked-end.ensures.out_after c.put_bytes.ensures; few = omega arith }
