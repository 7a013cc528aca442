-- LongJobs: plans with as many frames as there may be, and with more, computed from the definitions as `Jobs.jobs` is.
use lib.Dec.{T}
use Rattle.laws.specs.Lists.{all}
use Rattle.rules.specs.Jobs.{long_entries, holds}
use Rattle.rules.proofs.Jobs.{everything}

pub long_jobs : T (all holds long_entries)
unfolding everything
long_jobs = tt
