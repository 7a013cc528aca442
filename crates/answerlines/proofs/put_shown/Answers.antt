-- Two cases: where the nodes put no byte, a dash follows (`none-shown`), else only the line feed (`some-shown`).
use Rattle.answerlines.proofs.Lines.{none-shown, some-shown}
use native.Mathlib.Omega.{arith}
use Rattle.answerlines.proofs.put_shown.Goals as goal

pub returns-then-last-first : goal.returns-then-last-first
returns-then-last-first c =
    record { out_after = none-shown c.args.out.now _ _ _ c.args.at c.put_bytes-first.result c.put_nodes-last.result c.put_bytes.result c.put_bytes-first.ensures c.args.nodes c.put_nodes-last.ensures.out_after c.if-last-first.true c.put_bytes.ensures; few = omega arith }

pub returns : goal.returns
returns c =
    record { out_after = some-shown c.args.out.now _ _ _ c.args.at c.put_bytes-first.result c.put_nodes-last.result c.put_bytes-2.result c.put_bytes-first.ensures c.args.nodes c.put_nodes-last.ensures.out_after c.if-last-first.false c.put_bytes-2.ensures; few = omega arith }
