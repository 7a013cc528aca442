-- No part of the station matters but those that are passed on: `module_whole`.
use Rattle.std.proofs.Common.{◌∙◌}
use Rattle.outward.proofs.Seen.{module_whole}
use Rattle.olbiothar.proofs.olbiothar_module.Goals as goal

pub returns : goal.returns
returns c = c.module_now.ensures ∙ module_whole c.args.station.now c.args.m
