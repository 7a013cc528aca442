-- By how far the history has come, the callee's promise is rewritten into the definitions.
use mathlib.Core.Path.{◌∙◌}
use Rattle.playstation.specs.Closing.{closing_status, closing_text}
use native.Mathlib.Omega.{arith}
use Rattle.playstation.proofs.closing.Goals as goal

pub returns-in-Waits : goal.returns-in-Waits
unfolding closing_status closing_text
returns-in-Waits c =
    record { out_after = rw c.in-Waits.is c.ended.ensures.out_after; status_value = rw c.in-Waits.is c.ended.ensures.status_value; few = c.ended.ensures.few }

pub returns-in-Plays : goal.returns-in-Plays
unfolding closing_status closing_text
returns-in-Plays c =
    record { out_after = rw c.in-Plays.is c.ended-in-Plays.ensures.out_after; status_value = rw c.in-Plays.is c.ended-in-Plays.ensures.status_value; few = c.ended-in-Plays.ensures.few }

pub returns-in-Stops : goal.returns-in-Stops
unfolding closing_status closing_text
returns-in-Stops c =
    record { out_after = rw c.in-Stops.is (c.put_unreadable.ensures.out_after.0, c.refused.ensures.0 ∙ c.put_unreadable.ensures.out_after.1); status_value = rw c.in-Stops.is c.refused.ensures.1; few = omega (arith, c.refused.ensures.0, c.put_unreadable.ensures.few) }
