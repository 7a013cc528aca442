-- `leaves` reads from the promise of the station's `tick` what the rule leaves, `quiet-text` what is said of it.
use mathlib.Core.Path.{sym, ◌∙◌}
use Rattle.station.proofs.Plays.{leaves}
use Rattle.hearing.proofs.Answering.{quiet-text}
use Rattle.hearing.specs.Heard.{after_tick}
use native.Mathlib.Omega.{arith}
use Rattle.hearing.proofs.answer_quiet.Goals as goal

pub returns : goal.returns
unfolding after_tick
returns c =
    let answers = rw c.none.ensures at c.tick-ticked.ensures in record { station_value = leaves _ _ _ answers; stays = (λ e. answers.unchanged (sym c.is_refused.ensures ∙ e)); text = rw (quiet-text c.args.station c.args.rows c.args.k _ answers) at (rw c.same_shown.ensures at c.put_quiet-length.ensures.out_after); few = omega (arith, c.put_quiet-length.ensures.few) }
