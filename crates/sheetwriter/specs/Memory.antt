-- The sheet of a table that stands in arrays: its rows, the releases of a plan's pairs, and the number of each row's pair.
use Rattle.std.specs.Prelude.{cond, List, [], ◌∷◌, ◌++◌, leb, get_or, ℕ, ◌+◌, min}
use Rattle.laws.specs.Res.{Res, ok, refuse}
use Rattle.rules.specs.Limits.{most_nodes, most_frames}
use Rattle.rules.specs.Plan.{Plan, the_task}
use Rattle.rules.specs.Traffic.{task_node}
use Rattle.rules.specs.Frames.{on_bus}
use Rattle.naming.specs.Places.{look_in}
use Rattle.table.specs.Memory.{Table}
use Rattle.table.specs.Rows.{control_in}
use Rattle.text.specs.Text.{ended, refused_line, texts}
use Rattle.sheet.specs.declared.Cell.{Cell}
use Rattle.sheet.specs.declared.Cell.TheVariants.{Count}
use Rattle.sheet.specs.Sheet.{control_cells, control_word, cycle_line, data_word, difference, head_line, row_line}

-- the cells of a data row that holds one pair, by its numbers: it sends as much as its task's message has
unfoldable pub data_cells_in : Plan → ℕ → ℕ → ℕ → ℕ → ℕ → List Cell
data_cells_in p task release deadline start stop =
    Count (task_node p task) ∷ Count task ∷ Count release ∷ Count deadline ∷ Count start ∷ Count stop
    ∷ Count (on_bus p.bus (the_task p task).size).bits ∷ Count (on_bus p.bus (the_task p task).size).ticks
    ∷ difference start release ∷ difference deadline stop ∷ []

-- the line of control row k, and of data row k, where the first data row is record `first`
unfoldable pub control_text_in : Plan → List ℕ → List ℕ → List ℕ → ℕ → List ℕ
control_text_in p nodes starts stops k = ended (row_line control_word (control_cells p (control_in nodes starts stops k)) (1 + k))

unfoldable pub data_text_in : Plan → ℕ → List ℕ → List ℕ → List ℕ → List ℕ → List ℕ → List ℕ → ℕ → List ℕ
data_text_in p first tasks deadlines starts stops releases frames k =
    ended
    (row_line data_word
    (data_cells_in p (get_or tasks k 0) (look_in most_frames releases (get_or frames k 0)) (get_or deadlines k 0) (get_or starts k 0) (get_or stops k 0))
    (first + k))

-- of the rows as many as have a place
unfoldable pub sheet_in : Plan → Table → List ℕ → List ℕ → List ℕ
sheet_in p t releases frames =
    ended (cycle_line p.consumers t.header.period.0)
    ++ (ended head_line
    ++ (texts (control_text_in p t.control_nodes t.control_starts t.control_stops) (min t.controls most_nodes)
    ++ texts (data_text_in p (1 + min t.controls most_nodes) t.tasks t.deadlines t.starts t.stops releases frames) (min t.rows most_frames)))

-- what is printed by a judgement: the line of a refusal before 25 alone
abbrev pub printed_text : Res (Unit {0}) → List ℕ → List ℕ
printed_text (ok u) sheet = sheet
printed_text (refuse n p) sheet = refused_line n p ++ cond (leb 25 n) sheet []
