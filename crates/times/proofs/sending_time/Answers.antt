-- The ticks of what `on_bus` promises are `sending_time`.
use mathlib.Core.Path.{ap}
use Rattle.rules.specs.Frames.{sending_time}
use Rattle.times.specs.declared.Sending.{Sending}
use Rattle.times.specs.Sending.{sending_laid}
use Rattle.times.proofs.sending_time.Goals as goal

pub returns : goal.returns
unfolding sending_time sending_laid
returns c = (ap (λ (s : Sending). s.ticks.0) c.on_bus.ensures.0, c.on_bus.ensures.1)
