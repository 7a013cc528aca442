-- As many are lent as the plan has (`front-seen`).
use native.Mathlib.Omega.{arith}
use mathlib.Core.Path.{ap, sym, ◌∙◌}
use lib.ListN.{length, length-map, length-take}
use Rattle.plan.specs.Memory.{seen, count_seen, module_seen}
use Rattle.bus.proofs.Fronts.{front-seen}
use Rattle.bus.proofs.lists.modules.Goals as goal

pub returns : goal.returns
unfolding seen
returns c =
    let s = front-seen module_seen (count_seen c.args.p.now 3) _ c.args.p.now.modules c.module_count.ensures.0 in
    record { things = s; count = (sym (length-map _ module_seen) ∙ ap length s, omega (arith, length-take c.module_count.result c.args.p.now.modules)) }
