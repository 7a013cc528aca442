-- What a plan file and a table file come to, and what is handed on of a table that passes.
use Rattle.std.specs.Prelude.{◌≡◌, List, map, replicate, ℕ}
use Rattle.laws.specs.Res.{Res, ok, refuse, ◌>>=◌, ◌>>◌}
use Rattle.laws.specs.Loops.{pad_to}
use Rattle.rules.specs.Limits.{most_frames}
use Rattle.rules.specs.Records.{records, table_follows}
use Rattle.rules.specs.Plan as rules
use Rattle.rules.specs.Traffic.{traffic}
use Rattle.rules.specs.Frames.{layout_of}
use Rattle.rules.specs.Checker.{Passed, judged, table_of}
use Rattle.std.specs.Prelude.{Result, Ok, Err}
use Rattle.answers.specs.Refusals.{said}
use Rattle.answers.specs.declared.Refusal.{Refusal}
use Rattle.plan.specs.declared.Plan.{Plan}
use Rattle.plan.specs.Memory.{lay_out, empty_plan}
use Rattle.line.specs.Line.{Drawing, line_in, line_of, no_line}
use Rattle.judging.specs.Judged.{start_in}
use Rattle.checked.specs.Checking.{verdict}
use Rattle.checker.specs.declared.Passing.{Passing}

-- the plan as it was read, its line with its pairs, and by number the starts that the table gives to these; nothing of a table that is
-- refused
abbrev pub plan_for : Res Passed → Plan
plan_for (ok c) = lay_out c.plan
plan_for (refuse n p) = empty_plan

abbrev pub line_for : Res Passed → Drawing
line_for (ok c) = line_of c.plan
line_for (refuse n p) = no_line

unfoldable pub starts_of : Passed → List ℕ
starts_of c = pad_to most_frames 0 (map (start_in c.table.rows) c.layout.pairs)

abbrev pub starts_for : Res Passed → List ℕ
starts_for (ok c) = starts_of c
starts_for (refuse n p) = replicate most_frames 0

unfoldable pub no_passing : Passing
no_passing = record { plan = empty_plan; line = line_in no_line }

-- an answer in the rules' words, and what is handed on with it: nothing of a table that is refused
abbrev pub heard_passing : Result Passing Refusal → Res (Unit {0})
heard_passing (Ok p) = ok tt
heard_passing (Err x) = said x

abbrev pub passing_beside : Result Passing Refusal → Passing
passing_beside (Ok p) = p
passing_beside (Err x) = no_passing

-- The same number and place as the rules, or that the table passes, with what is handed on: the plan and its line, and its pairs in three
-- arrays.
pub record Passes (r : Result Passing Refusal) (pair_tasks pair_deadlines pair_starts : List ℕ) (rule : Res Passed) : Type 0 where
  pub answered : heard_passing r ≡ verdict rule
  pub plan : (passing_beside r).plan ≡ plan_for rule
  pub line : (passing_beside r).line ≡ line_in (line_for rule)
  pub tasks : pair_tasks ≡ (line_for rule).tasks
  pub deadlines : pair_deadlines ≡ (line_for rule).deadlines
  pub starts : pair_starts ≡ starts_for rule

-- refusals 20 to 28 of a table file by a plan that is laid out
unfoldable pub table_passed : rules.Plan → List ℕ → Res Passed
table_passed p table = do
  rs ← records table_follows 20 table
  judged (layout_of p) (table_of rs)
  ok (record { plan = p; traffic = traffic p; layout = layout_of p; table = table_of rs })
