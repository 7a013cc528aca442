-- The ticks of what `gap_on_bus` promises are `gap_time`.
use mathlib.Core.Path.{ap}
use Rattle.rules.specs.Frames.{gap_time}
use Rattle.times.specs.declared.Sending.{Sending}
use Rattle.times.specs.Sending.{sending_laid}
use Rattle.times.proofs.gap_time.Goals as goal

pub returns : goal.returns
unfolding gap_time sending_laid
returns c = (ap (λ (s : Sending). s.ticks.0) c.gap_on_bus.ensures.0, c.gap_on_bus.ensures.1)
