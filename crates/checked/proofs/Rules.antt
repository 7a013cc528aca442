-- `check` of the rules is assembled from `lent_passed`: the same answer, and the lent rows by its rows.
use mathlib.Core.Path.{◌≡◌, refl, sym, ap}
use mathlib.Core.List.{List, []}
use native.Mathlib.Nat.{sub-zero}
use borrow.Author.Tests.{le-leb, lt-leb}
use lib.ListN.{length, replicate}
use Prim.Native.Nat.{ℕ, ◌≤◌, ◌<◌}
use Rattle.rules.specs.Limits.{most_frames}
use Rattle.laws.specs.Res.{Res, ok, refuse}
use Rattle.laws.proofs.Orders.{le-or-lt}
use mathlib.Core.Logic.{◌⊎◌, inl, inr}
use Rattle.rules.specs.Table.{FrameRow, zero_row, rows_then_zero}
use Rattle.rules.specs.Checker as rules
use Rattle.rules.specs.Checker.{check_files, check_outcome}
use Rattle.rules.proofs.CheckerExact.{lent-enough, lent-short}
use Rattle.checked.specs.Checking.{verdict, rows_of, lent_passed}

module _ (plan table : List ℕ) (lent : ℕ) where
  pub short-is : lent < most_frames → lent_passed plan table lent ≡ refuse 19 most_frames
  unfolding lent_passed
  short-is h = rw (lt-leb most_frames lent h)

  pub enough-is : most_frames ≤ lent → lent_passed plan table lent ≡ check_files plan table
  unfolding lent_passed
  enough-is h = rw (le-leb most_frames lent h)

outcome-answer : (rule : Res rules.Passed) (rows : List FrameRow) → (check_outcome rule rows).answer ≡ verdict rule
outcome-answer (ok c) rows = refl
outcome-answer (refuse n p) rows = refl

-- no rows: every lent row is zero
all-zero : (lent : ℕ) → replicate lent zero_row ≡ rows_then_zero [] lent
unfolding rows_then_zero
all-zero lent = ap (λ (n : ℕ). replicate n zero_row) (sym (sub-zero lent))

outcome-rows : (rule : Res rules.Passed) (rows : List FrameRow) → (check_outcome rule rows).rows ≡ rows_then_zero (rows_of rule) (length rows)
outcome-rows (ok c) rows = refl
outcome-rows (refuse n p) rows = all-zero (length rows)

module _ (plan table : List ℕ) (rows : List FrameRow) where
  answer_by : (most_frames ≤ length rows) ⊎ (length rows < most_frames) → (rules.check plan table rows).answer ≡ verdict (lent_passed plan table (length rows))
  answer_by (inl h) = rw (lent-enough plan table rows h, enough-is plan table (length rows) h) (outcome-answer (check_files plan table) rows)
  answer_by (inr h) = rw (lent-short plan table rows h, short-is plan table (length rows) h)

  pub check-answer : (rules.check plan table rows).answer ≡ verdict (lent_passed plan table (length rows))
  check-answer = answer_by (le-or-lt most_frames (length rows))

  pub check-rows : most_frames ≤ length rows → (rules.check plan table rows).rows ≡ rows_then_zero (rows_of (lent_passed plan table (length rows))) (length rows)
  check-rows h = rw (lent-enough plan table rows h, enough-is plan table (length rows) h) (outcome-rows (check_files plan table) rows)

  -- 19 leaves the rows as they were
  pub check-rows-short : length rows < most_frames → (rules.check plan table rows).rows ≡ rows
  check-rows-short h = rw (lent-short plan table rows h)
