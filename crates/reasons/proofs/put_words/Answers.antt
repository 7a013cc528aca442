-- By what was found: the words of the reason, or those for none.
use Rattle.reasons.proofs.Named.{no_words, why_words}
use Rattle.reasons.proofs.put_words.Goals as goal

pub returns-in-Some-clause-out_after : goal.returns-in-Some-clause-out_after
returns-in-Some-clause-out_after c =
    let words = why_words _ c.reason_at.ensures _ c.in-Some.is in
    rw (← words) c.put_reason.ensures.out_after

pub returns-in-None-clause-out_after : goal.returns-in-None-clause-out_after
returns-in-None-clause-out_after c =
    let words = no_words _ c.reason_at.ensures c.in-None.is in
    rw (← words) c.put_bytes.ensures
