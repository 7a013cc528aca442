-- By computation, with the promise of `Node::zero` rewritten into `not_begun`.
use Rattle.station.specs.Memory.{not_begun}
use Rattle.station.proofs.Station.not_begun.Goals as goal

pub returns : goal.returns
unfolding not_begun
returns c = rw c.zero.ensures
