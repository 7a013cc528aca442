-- What laying a plan out answers, and the line and the frames that it leaves.
use Rattle.std.specs.Prelude.{◌≡◌, Result, Ok, Err, leb, length, Bool, List, ℕ}
use Rattle.laws.specs.Res.{Res, ok, refuse, ◌>>=◌, ◌>>◌, unless}
use Rattle.rules.specs.Plan.{Plan}
use Rattle.rules.specs.Limits.{most_frames}
use Rattle.rules.specs.Traffic.{read_in, traffic}
use Rattle.rules.specs.Frames.{Layout, layout, layout_of, pairs, payloads_fit, control_end}
use Rattle.answers.specs.declared.Refusal.{Refusal}
use Rattle.answers.specs.Refusals.{said}
use Rattle.line.specs.declared.Line.{Line}
use Rattle.line.specs.Line.{no_line, line_in, line_for, drawing}

abbrev pub verdict : Res Plan → Res (Unit {0})
verdict (ok p) = ok tt
verdict (refuse n p) = refuse n p

-- an answer in the rules' words, and the line beside it: none where the plan is refused
abbrev pub heard_line : Result Line Refusal → Res (Unit {0})
heard_line (Ok l) = ok tt
heard_line (Err x) = said x

abbrev pub line_beside : Result Line Refusal → Line
line_beside (Ok l) = l
line_beside (Err x) = line_in no_line

-- Laying out says what the rules say: the same number and place, or the line, with its frames in three arrays.
pub record Lays (r : Result Line Refusal) (tasks releases deadlines : List ℕ) (rule : Res Plan) : Type 0 where
  pub answered : heard_line r ≡ verdict rule
  pub left : drawing (line_beside r) tasks releases deadlines ≡ line_for rule

-- the same of the answer and the line alone, where the frames were laid before
pub record Closes (r : Result Line Refusal) (rule : Res Plan) : Type 0 where
  pub answered : heard_line r ≡ verdict rule
  pub left : line_beside r ≡ line_in (line_for rule)

-- refusals 10 and 11, where 6 to 9 do not apply
unfoldable pub closing : Plan → Res Layout
closing p = do
  unless 10 0 (payloads_fit p)
  unless 11 0 (leb (control_end p) (traffic p).period)
  ok (layout_of p)

-- refusals 9 to 11, where 6 to 8 do not apply
unfoldable pub framing : Plan → Res Layout
framing p = do
  unless 9 0 (leb (length (pairs p)) most_frames)
  closing p

-- refusals 6 to 11 of a plan, and otherwise the plan, whose layout is then `layout_of` it
unfoldable pub laid : Plan → Res Plan
laid p = do
  layout p
  ok p

-- refusals 1 to 11 of a plan file in an edition
unfoldable pub file_laid : Bool → List ℕ → Res Plan
file_laid consumers file = do
  p ← read_in consumers file
  laid p
