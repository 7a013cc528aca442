-- What a check answers, and the frame rows that it leaves.
use Rattle.std.specs.Prelude.{◌≡◌, List, [], map, ◌⊎◌, ◌↔◌, leb, ℕ, ◌+◌, ◌≤◌, ◌<◌}
use Rattle.laws.specs.Res.{Res, ok, refuse, ◌>>◌, unless}
use Rattle.rules.specs.Limits.{most_frames}
use Rattle.rules.specs.Table.{FrameRow}
use Rattle.rules.specs.Checker as rules
use Rattle.rules.specs.Checker.{checked_row, check_files}
use Rattle.rules.specs.Obeys.{MayPass, CheckFault, UnreadAt, BrokenAt}
use Rattle.std.specs.Prelude.{Result, Ok}
use Rattle.answers.specs.declared.Refusal.{Refusal}
use Rattle.answers.specs.Answered.{judged as heard}
use Rattle.rows.specs.Rows.{Rows, rows_laid}

-- The answer, and the frames by number with the starts of the table that was checked; no rows where it is refused.
pub record Checked : Type 0 where
  pub answer : Result (Unit {0}) Refusal
  pub rows : Rows

abbrev pub verdict : Res rules.Passed → Res (Unit {0})
verdict (ok c) = ok tt
verdict (refuse n p) = refuse n p

-- the frames by number with the start of the table that was checked; none where it is refused
abbrev pub rows_of : Res rules.Passed → List FrameRow
rows_of (ok c) = map (checked_row c.table) c.layout.pairs
rows_of (refuse n p) = []

-- A check says what the rules say: the same number and place, or that the table passes, with the rows.
pub record Checks (r : Checked) (rule : Res rules.Passed) : Type 0 where
  pub answered : heard r.answer ≡ verdict rule
  pub left : r.rows ≡ rows_laid (rows_of rule)

-- too few frame rows lent, 19, comes before all; then the plan's refusals, then the table's
unfoldable pub lent_passed : List ℕ → List ℕ → ℕ → Res rules.Passed
lent_passed plan table lent = do
  unless 19 most_frames (leb most_frames lent)
  check_files plan table

-- The answer passes exactly the tables of laid out plans that keep every rule.
unfoldable pub PassesExactly : Result (Unit {0}) Refusal → List ℕ → List ℕ → ℕ → Type 0
PassesExactly a plan table lent = (a ≡ Ok tt) ↔ ((most_frames ≤ lent) × MayPass plan table)

-- The answer refuses exactly by the first fault: 19 where too few rows are lent, else the plan's or the table's first; 20 exactly
-- where the table first breaks the record rules; 21 to 28 exactly where that rule is the first that is broken, at its lowest record.
pub record RefusesExactly (a : Result (Unit {0}) Refusal) (plan table : List ℕ) (lent : ℕ) : Type 0 where
  pub first :
      (n p : ℕ) →
      (heard a ≡ refuse n p) ↔ (((lent < most_frames) × (n ≡ 19) × (p ≡ most_frames)) ⊎ ((most_frames ≤ lent) × CheckFault plan table n p))
  pub unread : (p : ℕ) → (heard a ≡ refuse 20 p) ↔ ((most_frames ≤ lent) × UnreadAt plan table p)
  pub rule : (i p : ℕ) → i < 8 → (heard a ≡ refuse (21 + i) p) ↔ ((most_frames ≤ lent) × BrokenAt plan table i p)
