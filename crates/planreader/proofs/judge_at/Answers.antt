-- The word that stands next is a part of the line (`part_found`).
use borrow.Author.Rules.{rules}
use Rattle.text.proofs.Words.{part_found}
use Rattle.planreader.proofs.judge_at.Goals as goal

pub slice_bounds-judge-count : goal.slice_bounds-judge-count
slice_bounds-judge-count c =
    let p = part_found _ _ c.next_word.ensures c.in_ok-word.ensures.ok_part in
    search rules

pub slice_bounds-judge-start : goal.slice_bounds-judge-start
slice_bounds-judge-start c =
    let p = part_found _ _ c.next_word.ensures c.in_ok-word.ensures.ok_part in
    search rules

pub slice_bounds-judge-end : goal.slice_bounds-judge-end
slice_bounds-judge-end c =
    let p = part_found _ _ c.next_word.ensures c.in_ok-word.ensures.ok_part in
    search rules
