-- Each part is the layout's by what is required; the line built of them is the layout's (`line-is`). The gap fits (`gap-small`).
use Rattle.plan.specs.Memory.{seen, bus_seen}
use Rattle.payloads.proofs.Small.{gap-small}
use Rattle.line.proofs.Built.{line-is}
use Rattle.line.proofs.line_of.Goals as goal

pub overflow_cast-gap : goal.overflow_cast-gap
unfolding seen
overflow_cast-gap c =
    record { fits = rw c.gap_time-gap.ensures.0 (gap-small (seen c.args.p).bus c.requires.plan_kept.bus) }

pub returns : goal.returns
unfolding seen bus_seen
returns c =
    line-is (seen c.args.p) c.head_kind.ensures c.requires.period_value.0 c.gap_time-gap.ensures.0 c.requires.period_value.1 c.message_times-time.ensures
    c.requires.control_value c.requires.count_value
