-- The promise of `shown_on` is `state_of` unfolded.
use Rattle.station.specs.Memory.{state_of}
use Rattle.station.proofs.Station.shown.Goals as goal

pub returns : goal.returns
unfolding state_of
returns c = rw c.shown_on.ensures
