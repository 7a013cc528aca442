-- No word (`no_words`), or a first one that tells the kind (`some_words`).
use borrow.Author.Rules.{rules}
use Rattle.text.specs.Lines.{words}
use Rattle.text.proofs.Words.{none_found, word-found, part_found}
use Rattle.planreader.proofs.Sayings.{no_words, some_words}
use Rattle.planreader.proofs.words_said.Goals as goal

pub slice_bounds-kind_of-count : goal.slice_bounds-kind_of-count
slice_bounds-kind_of-count c =
    let p = part_found _ _ c.next_word.ensures c.in-Some.is in
    search rules

pub slice_bounds-kind_of-start : goal.slice_bounds-kind_of-start
slice_bounds-kind_of-start c =
    let p = part_found _ _ c.next_word.ensures c.in-Some.is in
    search rules

pub slice_bounds-kind_of-end : goal.slice_bounds-kind_of-end
slice_bounds-kind_of-end c =
    let p = part_found _ _ c.next_word.ensures c.in-Some.is in
    search rules

pub returns-in-None : goal.returns-in-None
returns-in-None c =
    let a = c.args in
    let h = no_words a.last.kind (words a.s.now) a.last.end a.out.now (none_found a.s.now 0 c.next_word.ensures c.in-None.is) in
    record { value = h.0; out_after = h.1 }

pub returns-in-Some : goal.returns-in-Some
returns-in-Some c =
    let a = c.args in
    let h = some_words a.last.kind (words a.s.now) _ _ a.last.end a.out.now (word-found a.s.now 0 c.next_word.ensures c.in-Some.is)
    c.count_words.ensures c.kind_of-kind.ensures (c.kind_said.ensures.value, c.kind_said.ensures.out_after) in
    record { value = h.0; out_after = h.1 }
