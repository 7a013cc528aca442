-- The library's own test of a front decides the definition's (`word_stands`, `word_lacks`).
use Rattle.text.proofs.Runs.{word_stands, word_lacks}
use Rattle.text.proofs.lines.behind.Goals as goal

pub returns-then-starts_with : goal.returns-then-starts_with
returns-then-starts_with c = word_stands _ _ _ c.rest.ensures c.if-starts_with.ensures.value

pub returns-else-starts_with : goal.returns-else-starts_with
returns-else-starts_with c = word_lacks _ _ _ c.rest.ensures c.if-starts_with.ensures.value
