-- `leaves` reads from the promise of the station's `tick` what the rule leaves, `tick-text` what is said of it.
use Rattle.station.proofs.Plays.{leaves}
use Rattle.hearing.proofs.Answering.{tick-text}
use Rattle.hearing.specs.Heard.{after_tick}
use native.Mathlib.Omega.{arith}
use Rattle.hearing.proofs.answer_tick.Goals as goal

pub returns : goal.returns
unfolding after_tick
returns c =
    record { station_value = leaves _ _ _ c.tick-ticked.ensures; text = rw (tick-text c.args.station c.args.rows _ c.tick-ticked.ensures) at c.put_ticked-length.ensures.out_after; few = omega (arith, c.put_ticked-length.ensures.few) }
