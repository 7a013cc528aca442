-- What the program writes, for each plan, and how it ends.
use Rattle.std.specs.Prelude.{List, ℕ}
use Rattle.laws.specs.Res.{Res, ok, refuse}
use Rattle.manners.specs.Status.{done, refused, unless_long_status}
use Rattle.text.specs.Text.{is_short, unless_long}
use Rattle.planwords.specs.PlanText.{plan_text, written}

-- the longest text: 42 bytes for each of the longest plan
abbrev pub longest_text : ℕ
longest_text = 2752512

-- Rule 19.1: the plan as text, or the line `refused 1 at P`; at most 65,536 bytes are read.
unfoldable pub answer_for : List ℕ → List ℕ
answer_for plan = unless_long (is_short 65536 plan) (written (plan_text plan))

abbrev pub status_of : Res (List ℕ) → ℕ
status_of (ok text) = done
status_of (refuse n p) = refused

-- How the program ends.
unfoldable pub status_for : List ℕ → ℕ
status_for plan = unless_long_status (is_short 65536 plan) (status_of (plan_text plan))
