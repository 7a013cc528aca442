-- The promise of `sending_time` is the statement, once `seen` is unfolded.
use Rattle.plan.specs.Memory.{seen}
use Rattle.control.proofs.control_time.Goals as goal

pub returns : goal.returns
unfolding seen
returns c = c.sending_time.ensures
