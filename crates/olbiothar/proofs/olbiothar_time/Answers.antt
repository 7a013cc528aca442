-- No part of the station matters but those that are passed on: `time-whole`.
use Rattle.std.proofs.Common.{◌∙◌}
use Rattle.outward.proofs.Seen.{time-whole}
use Rattle.olbiothar.proofs.olbiothar_time.Goals as goal

pub returns : goal.returns
returns c = c.time_now.ensures ∙ time-whole c.args.station.now
