-- The word that stands next is a part of the line (`part_found`); its number, by cases, as `taken_at` has it.
use Rattle.text.proofs.Words.{part_found}
use Rattle.sheetreader.specs.Memory.{taken_at}
use Rattle.std.proofs.Common.{◌∙◌, rules}
use Rattle.sheetreader.proofs.number_at.Goals as goal

pub slice_bounds-number_in-count : goal.slice_bounds-number_in-count
slice_bounds-number_in-count c = let p = part_found _ _ c.next_word.ensures c.in-Some.is in search rules

pub slice_bounds-number_in-start : goal.slice_bounds-number_in-start
slice_bounds-number_in-start c = let p = part_found _ _ c.next_word.ensures c.in-Some.is in search rules

pub slice_bounds-number_in-end : goal.slice_bounds-number_in-end
slice_bounds-number_in-end c = let p = part_found _ _ c.next_word.ensures c.in-Some.is in search rules

pub returns-in_default : goal.returns-in_default
unfolding taken_at
returns-in_default c = rw (← c.next_word.ensures, c.in_default.is) c.missing.ensures

pub returns-in_err-value : goal.returns-in_err-value
unfolding taken_at
returns-in_err-value c =
    c.from_residual.ensures ∙ rw (← c.next_word.ensures, c.in-Some.is, ← c.number_in.ensures, c.in_err-value.was {u = tt})

pub returns : goal.returns
unfolding taken_at
returns c = rw (← c.next_word.ensures, c.in-Some.is, ← c.number_in.ensures, c.in_ok-value.was {u = tt})
