-- The promise of `judged_results` is rewritten into that of `judged_changes`; together they are `judged_by` unfolded.
use Rattle.stationrefusals.specs.Refusing.{judged_by}
use Rattle.stationrefusals.proofs.judged.Goals as goal

pub returns : goal.returns
unfolding judged_by
returns c = rw c.judged_results-before.ensures at c.judged_changes.ensures
