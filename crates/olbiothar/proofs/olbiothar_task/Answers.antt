-- No part of the station matters but those that are passed on: `task-whole`.
use Rattle.std.proofs.Common.{◌∙◌}
use Rattle.outward.proofs.Seen.{task-whole}
use Rattle.olbiothar.proofs.olbiothar_task.Goals as goal

pub returns : goal.returns
returns c = c.task_now.ensures ∙ task-whole c.args.station.now c.args.t
