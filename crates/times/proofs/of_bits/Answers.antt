-- The promises of both roundings are rewritten into `of_bits`; their bounds give the bound by arithmetic.
use native.Mathlib.Omega.{arith}
use Rattle.plan.specs.Memory.{bus_seen}
use Rattle.rules.specs.Frames.{of_bits}
use Rattle.times.specs.Sending.{sending_laid}
use Rattle.times.proofs.of_bits.Goals as goal

pub returns : goal.returns
unfolding sending_laid of_bits bus_seen
returns c = (rw (c.multiple_up.ensures.0, c.quotient_up-ticks.ensures.0), omega (arith, c.multiple_up.ensures.1, c.quotient_up-ticks.ensures.1))
