-- Below 32 the plain ones, from there on the words.
use Rattle.reasons.proofs.Named.{expected_at, plain_at}
use Rattle.reasons.proofs.reason_at.Goals as goal

pub returns-then-number-lt-WORDS : goal.returns-then-number-lt-WORDS
returns-then-number-lt-WORDS c = plain_at _ c.if-number-lt-WORDS.true c.plain_reason.ensures

pub returns-else-number-lt-WORDS : goal.returns-else-number-lt-WORDS
returns-else-number-lt-WORDS c = expected_at _ c.if-number-lt-WORDS.false c.expected_reason.ensures
