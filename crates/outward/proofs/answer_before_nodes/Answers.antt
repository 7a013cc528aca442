-- `completes_for` puts the promises of the two callees together, for any nodes that are `Valued`.
use Rattle.outward.proofs.Ticking.{completes_for}
use Rattle.outward.proofs.answer_before_nodes.Goals as goal

pub returns : goal.returns
returns c =
    λ nodes valued. completes_for (c.tick_before_nodes-first.ensures nodes valued) c.from.ensures
