-- What the exported functions answer and leave in lent memory is what the rules answer and leave, on every outcome.
use Rattle.std.specs.Prelude.{◌≡◌, Bool, true, false, cond, List, map, leb, length, ℕ}
use Rattle.laws.specs.Res.{refuse}
use Rattle.rules.specs.Limits.{most_frames}
use Rattle.rules.specs.Table.{FrameRow, Made, outcome, make}
use Rattle.rules.specs.Checker.{check}
use Rattle.units.specs.declared.Frame.{Frame}
use Rattle.rows.specs.Frames.{row_of}
use Rattle.maker.specs.Making.{is_edition, for_consumers}
use Rattle.outward.specs.declared.Answer.{Answer}
use Rattle.outward.specs.Answers.{answer_of, made_of}

-- no edition of this number, where enough rows are lent and where not
abbrev pub no_edition : Bool → ℕ → List FrameRow → List ℕ → Made
no_edition true edition rows buffer = outcome (refuse 62 edition) rows buffer
no_edition false edition rows buffer = record { answer = refuse 19 most_frames; rows = rows; buffer = buffer }

-- Rule 21.11: what the rules answer and leave by the number of an edition; 62 where there is no such edition, behind 19.
unfoldable pub made_in : ℕ → List ℕ → List FrameRow → List ℕ → Made
made_in edition plan rows buffer =
    cond (is_edition edition) (make (for_consumers edition) plan rows buffer) (no_edition (leb most_frames (length rows)) edition rows buffer)

-- `make`: its answer, every lent row and every lent byte.
pub record MakesRows (answer : Answer) (edition : ℕ) (plan : List ℕ) (before after : List Frame) (old new : List ℕ) : Type 0 where
  pub answered : answer ≡ made_of (made_in edition plan (map row_of before) old).answer
  pub left : map row_of after ≡ (made_in edition plan (map row_of before) old).rows
  pub written : new ≡ (made_in edition plan (map row_of before) old).buffer

-- `check`: its answer, and every lent row.
pub record ChecksRows (answer : Answer) (plan table : List ℕ) (before after : List Frame) : Type 0 where
  pub answered : answer ≡ answer_of (check plan table (map row_of before)).answer
  pub left : map row_of after ≡ (check plan table (map row_of before)).rows
