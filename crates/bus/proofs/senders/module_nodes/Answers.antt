-- What `fill` promises, of modules as they are seen (`filled_seen`).
use mathlib.Core.Path.{refl}
use native.Mathlib.Omega.{arith}
use Rattle.std.proofs.Common.{rules}
use Rattle.plan.specs.Memory.{module_seen}
use Rattle.rules.specs.Traffic.{module_node}
use Rattle.bus.proofs.Marking.{filled_seen}
use Rattle.bus.proofs.senders.module_nodes.Goals as goal

pub returns : goal.returns
unfolding module_node module_seen
returns c = filled_seen module_seen (λ n. n) 0 refl c.modules.ensures.things (omega (arith, c.modules.ensures.count.1)) c.fill.ensures (λ i d v w said. search rules)
