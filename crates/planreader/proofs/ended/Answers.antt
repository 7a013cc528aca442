-- Two cases of what stands next (`none_found`, `word-found`).
use Rattle.planwords.specs.TextPlan.{matched}
use Rattle.text.proofs.Words.{none_found, word-found}
use Rattle.planreader.proofs.ended.Goals as goal

pub returns-in-None : goal.returns-in-None
unfolding matched
returns-in-None c = rw (none_found _ _ c.next_word.ensures c.in-None.is)

pub returns-in-Some : goal.returns-in-Some
unfolding matched
returns-in-Some c = rw (word-found _ _ c.next_word.ensures c.in-Some.is)
