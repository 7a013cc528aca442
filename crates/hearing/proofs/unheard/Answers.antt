-- The promise of `not_begun` is rewritten in; the rest computes.
use Rattle.hearing.proofs.unheard.Goals as goal

pub returns : goal.returns
returns c = rw c.not_begun.ensures
