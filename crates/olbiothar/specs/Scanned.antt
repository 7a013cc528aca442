-- What `olbiothar_check` does with the lent rows once all rules but 7.25 are judged.
use Rattle.std.specs.Prelude.{◌≡◌, Bool, false, List, length, ℕ}
use Rattle.units.specs.declared.Frame.{Frame}
use Rattle.rows.specs.Passes.{found_after, rows_after, looked_row, cleared_row}
use Rattle.answers.specs.Answered.{judged}
use Rattle.checked.specs.Checking.{lent_passed}
use Rattle.checker.specs.declared.CheckedRows.{CheckedRows}
use Rattle.checker.specs.declared.Ruling.{Ruling}
use Rattle.checker.specs.Unscanned.{Settles}
use Rattle.outward.specs.declared.Answer.{Answer}
use Rattle.outward.specs.Answers.{answer_of}

-- The rows are looked through for one that starts before its release; where there is one all rules are looked at; where the answer refuses no row stays.
pub record Scans (answer : Answer) (plan table : List ℕ) (unscanned : CheckedRows) (before after : List Frame) : Type 0 where
  pub early : Bool
  pub ruling : Ruling
  pub looked : early ≡ found_after looked_row unscanned.frames false before
  pub settled : Settles early unscanned.answer (lent_passed plan table (length before)) ruling
  pub cleared : after ≡ rows_after cleared_row unscanned.frames ruling.refused (rows_after looked_row unscanned.frames false before)
  pub told : answer ≡ answer_of (judged ruling.answer)
