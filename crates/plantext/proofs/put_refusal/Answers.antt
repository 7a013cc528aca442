-- No such line is longer (`refused-line-most`).
use native.Mathlib.Omega.{arith}
use Rattle.text.proofs.Decimals.{refused-line-most}
use Rattle.plantext.proofs.put_refusal.Goals as goal

pub returns-clause-few : goal.returns-clause-few
returns-clause-few c = omega (arith, c.put_refused.ensures.1, refused-line-most 1 c.args.place (omega arith) (omega arith))
