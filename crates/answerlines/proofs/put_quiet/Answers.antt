-- Where something is said, it follows `after K` (`quiet_put`); else nothing is put.
use Rattle.answerlines.proofs.Lines.{quiet_put}
use Rattle.answerlines.specs.Writing.{quiet_text}
use mathlib.Core.Path.{sym, refl, ◌∙◌}
use native.Mathlib.Omega.{arith}
use Rattle.answerlines.proofs.put_quiet.Goals as goal

pub returns-then-speaks : goal.returns-then-speaks
returns-then-speaks c =
    record { out_after = quiet_put c.args.out.now _ _ c.put_numbered-first.result c.put_said.result c.args.k c.args.rows c.args.said c.args.shows c.args.nodes (sym c.speaks.ensures ∙ c.if-speaks.true) c.put_numbered-first.ensures.out_after c.put_said.ensures.out_after; few = omega arith }

pub returns : goal.returns
unfolding quiet_text
returns c = record { out_after = rw (← c.speaks.ensures, c.if-speaks.false) (refl, refl); few = omega arith }
