-- What the program writes, for each text, and how it ends.
use Rattle.std.specs.Prelude.{List, ℕ}
use Rattle.manners.specs.Status.{done, refused, unless_long_status}
use Rattle.text.specs.Text.{is_short, unless_long}
use Rattle.planwords.specs.TextPlan.{PlanBack, plan_file, read_text, unreadable_line, written_back}
use Rattle.planreader.specs.Memory.{longest_text}

-- Rule 20.5: the plan's bytes, or the line `unreadable line L: REASON`; at most 262,144 bytes are read.
unfoldable pub answer_for : List ℕ → List ℕ
answer_for text = unless_long (is_short longest_text text) (written_back (read_text text))

abbrev pub status_of : PlanBack → ℕ
status_of (plan_file file) = done
status_of (unreadable_line n why) = refused

-- How the program ends.
unfoldable pub status_for : List ℕ → ℕ
status_for text = unless_long_status (is_short longest_text text) (status_of (read_text text))
