-- Two cases of the flag: zeros, or the promise of `modes_at`.
use Rattle.station.proofs.due_now.Goals as goal

pub returns-then-idle : goal.returns-then-idle
returns-then-idle c = rw c.if-idle.true

pub returns-else-idle : goal.returns-else-idle
returns-else-idle c = rw c.if-idle.false c.modes_at.ensures
