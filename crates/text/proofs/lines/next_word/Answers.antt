-- Two exits, one law each: `next-found`, `next-none`.
use Rattle.text.specs.Lines.{is_blank, is_letter}
use Rattle.text.proofs.Runs.{run_counted}
use Rattle.text.proofs.Words.{next-found, next-none}
use Rattle.text.proofs.lines.next_word.Goals as goal

pub returns-then-from-s : goal.returns-then-from-s
returns-then-from-s c =
    next-found _ _ (run_counted is_blank _ _ c.rest.ensures c.blanks.ensures.value) c.if-from-s.true
    (run_counted is_letter _ _ c.rest-then-from-s.ensures c.letters.ensures.value)

pub returns : goal.returns
returns c = next-none _ _ (run_counted is_blank _ _ c.rest.ensures c.blanks.ensures.value) c.if-from-s.false
