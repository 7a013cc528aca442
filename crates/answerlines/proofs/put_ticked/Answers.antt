-- What is said of the tick, at the front (`at_front`).
use Rattle.text.proofs.Putting.{at_front}
use Rattle.answerlines.specs.Writing.{said_text, ticked_text}
use mathlib.Core.Bool.{true}
use native.Mathlib.Omega.{arith}
use Rattle.answerlines.proofs.put_ticked.Goals as goal

pub returns : goal.returns
unfolding ticked_text
returns c =
    record { out_after = at_front c.args.out.now (said_text c.args.rows c.args.said true c.args.nodes) _ c.put_said.result c.put_said.ensures.out_after; few = omega (arith, c.put_said.ensures.few) }
