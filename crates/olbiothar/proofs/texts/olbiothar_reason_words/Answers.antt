-- Two exits, one law each: too little room (`no_room`), else the words and a zero byte (`words-put`).
use Rattle.reasons.specs.Numbers.{reason_words}
use Rattle.olbiothar.proofs.Words.{no_room, words-put}
use Rattle.olbiothar.proofs.texts.olbiothar_reason_words.Goals as goal

pub returns-then-text-lt-LONGEST_WORDS : goal.returns-then-text-lt-LONGEST_WORDS
returns-then-text-lt-LONGEST_WORDS c =
    let a = c.args in
    let all = no_room (reason_words a.reason) a.text.now c.if-text-lt-LONGEST_WORDS.true in
    record { value = all.0; text_after = all.1 }

pub returns : goal.returns
returns c =
    let a = c.args in
    let all = words-put (reason_words a.reason) a.text.now c.if-text-lt-LONGEST_WORDS.false c.put_words-end.ensures.out_after.1 c.put_words-end.ensures.out_after.0 c.put_bytes.ensures.0 in
    record { value = all.0; text_after = all.1 }
