-- No word, or a first one that tells the kind (`word-found`); then by the test whether the kind may stand.
use Rattle.text.proofs.Words.{none_found, word-found, part_found}
use borrow.Author.Rules.{rules}
use Rattle.sheetreader.proofs.words_said.Goals as goal

pub slice_bounds-kind_of-count : goal.slice_bounds-kind_of-count
slice_bounds-kind_of-count c =
    let p = part_found _ _ c.next_word.ensures c.in-Some.is in
    search rules

pub slice_bounds-kind_of-start : goal.slice_bounds-kind_of-start
slice_bounds-kind_of-start c =
    let p = part_found _ _ c.next_word.ensures c.in-Some.is in
    search rules

pub slice_bounds-kind_of-end : goal.slice_bounds-kind_of-end
slice_bounds-kind_of-end c =
    let p = part_found _ _ c.next_word.ensures c.in-Some.is in
    search rules

pub returns-then-may_stand : goal.returns-then-may_stand
returns-then-may_stand c =
    let first = word-found c.args.s.now 0 c.next_word.ensures c.in-Some.is in
    rw (first, ← c.kind_of-kind.ensures, ← c.may_stand.ensures, c.if-may_stand.true) c.kind_said.ensures

pub returns-in_default : goal.returns-in_default
returns-in_default c =
    rw (none_found c.args.s.now 0 c.next_word.ensures c.in_default.is)

pub returns-else-may_stand : goal.returns-else-may_stand
returns-else-may_stand c =
    let first = word-found c.args.s.now 0 c.next_word.ensures c.in-Some.is in
    rw (first, ← c.kind_of-kind.ensures, ← c.may_stand.ensures, c.if-may_stand.false)
