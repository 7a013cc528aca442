-- `out` has room for the longest table (`longest_is`).
use Rattle.std.proofs.Common.{rules}
use Rattle.rules.proofs.TableLength.{longest_is}
use Rattle.sheettable.proofs.read.Goals as goal

pub respond-answer-requires : goal.respond-answer-requires
respond-answer-requires c = rw longest_is (search rules)
