-- By how far the history has come, the callee's promise is rewritten into `heard_line`.
use Rattle.hearing.specs.Heard.{heard_line}
use mathlib.Core.Path.{sym, refl}
use Rattle.hearing.proofs.Coming.{stays}
use Rattle.hearing.proofs.hear.Goals as goal

pub returns-in-Waits : goal.returns-in-Waits
unfolding heard_line
returns-in-Waits c =
    rw (c.in-Waits.is, ← c.read_line-line.ensures) c.hear_first.ensures

pub returns-in-Plays : goal.returns-in-Plays
unfolding heard_line
returns-in-Plays c =
    rw (c.in-Plays.is, ← c.read_line-line.ensures) c.hear_later.ensures

pub returns-in-Stops : goal.returns-in-Stops
returns-in-Stops c =
    sym (stays c.args.plan.now c.args.table.now c.args.number c.args.heard.now c.args.s.now c.args.heard.now.stage refl (rw c.in-Stops.is))
