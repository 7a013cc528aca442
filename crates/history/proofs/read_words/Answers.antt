use native.Mathlib.Omega.{arith}
use Rattle.history.proofs.Wording.{wording_none, wording_end, wording_turn, word_part, word-later}
use borrow.Author.Rules.{rules}
use Rattle.history.proofs.read_words.Goals as goal

pub loop-from-init : goal.loop-from-init
loop-from-init c = wording_none c.unread-read.ensures

pub returns : goal.returns
returns c =
    rw (← wording_end c.loop-from.invariant c.next_word.ensures c.in_default.is) c.whole_line.ensures

pub slice_bounds-with_word-count : goal.slice_bounds-with_word-count
slice_bounds-with_word-count c =
    let p = word_part c.loop-from.invariant c.next_word.ensures c.in-Some.is in search rules

pub slice_bounds-with_word-start : goal.slice_bounds-with_word-start
slice_bounds-with_word-start c =
    let p = word_part c.loop-from.invariant c.next_word.ensures c.in-Some.is in search rules

pub slice_bounds-with_word-end : goal.slice_bounds-with_word-end
slice_bounds-with_word-end c =
    let p = word_part c.loop-from.invariant c.next_word.ensures c.in-Some.is in search rules

pub loop-from-smaller : goal.loop-from-smaller
loop-from-smaller c =
    let l = word-later c.loop-from.invariant c.next_word.ensures c.in-Some.is in omega arith

pub loop-from-preserved : goal.loop-from-preserved
loop-from-preserved c =
    wording_turn c.loop-from.invariant c.next_word.ensures c.in-Some.is c.with_word-read.ensures
