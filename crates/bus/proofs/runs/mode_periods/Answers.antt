-- What `fill` promises, of modes as they are seen (`filled_seen`).
use mathlib.Core.Path.{refl}
use native.Mathlib.Omega.{arith}
use Rattle.std.proofs.Common.{rules}
use Rattle.plan.specs.Memory.{mode_seen}
use Rattle.rules.specs.Plan.{Mode, no_mode, the_mode}
use Rattle.bus.specs.Runs.{mode_period}
use Rattle.bus.proofs.Marking.{filled_seen}
use Rattle.bus.proofs.runs.mode_periods.Goals as goal

pub returns : goal.returns
unfolding mode_period the_mode mode_seen
returns c = filled_seen mode_seen (λ (x : Mode). x.period) no_mode refl c.modes.ensures.things (omega (arith, c.modes.ensures.count.1)) c.fill.ensures (λ i d v w said. search rules)
