-- The answers to a history.
use Rattle.std.specs.Prelude.{Bool, true, false, ◌||◌, List, [], ◌∷◌, ◌++◌, eqb, get_or, Option, None, Some, Result, Ok, Err, ℕ}
use Rattle.laws.specs.Lists.{all, up_to}
use Rattle.rules.specs.Limits.{most_nodes, most_tasks}
use Rattle.text.specs.Text.{ascii, line_feed, marked, numbered_line, refused_line, texts}
use Rattle.answers.specs.Refusals.{number_of, place_of}
use Rattle.answers.specs.declared.Refusal.{Refusal}
use Rattle.stationmoves.specs.declared.ControlRow.{ControlRow}
use Rattle.stationmoves.specs.declared.DataRow.{DataRow}
use Rattle.stationmoves.specs.declared.StartedRow.{StartedRow}
use Rattle.stationmoves.specs.declared.StartedRow.TheVariants.{Control, Data}
use Rattle.stationnodes.specs.Nodes.{no_node}
use Rattle.stationnodes.specs.declared.Node.{Node}
use Rattle.units.specs.declared.Ticks.{Ticks}

-- ` NODE/TASK=VALUE`
abbrev pub place_text : ℕ → ℕ → ℕ → List ℕ
place_text n t v = marked (32 ∷ []) n ++ (marked (47 ∷ []) t ++ marked (61 ∷ []) v)

-- a place that is zero is left out
abbrev pub unless_zero : Bool → List ℕ → List ℕ
unless_zero true text = []
unless_zero false text = text

abbrev pub place_shown : ℕ → ℕ → ℕ → List ℕ
place_shown n t v = unless_zero (eqb v 0) (place_text n t v)

unfoldable pub shown_at : ℕ → List ℕ → ℕ → List ℕ
shown_at n shown t = place_shown n t (get_or shown t 0)

unfoldable pub node_shown : List Node → ℕ → List ℕ
node_shown nodes n = texts (shown_at n (get_or nodes n no_node).shown) most_tasks

abbrev pub shown_word : List ℕ
shown_word = ascii "shown"

-- ` -` for no place
abbrev pub or_dash : List ℕ → List ℕ
or_dash [] = 32 ∷ 45 ∷ line_feed
or_dash (b ∷ text) = (b ∷ text) ++ line_feed

-- `shown NODE/TASK=VALUE ..`, nodes then tasks ascending
unfoldable pub shown_line : List Node → List ℕ
shown_line nodes = shown_word ++ or_dash (texts (node_shown nodes) most_nodes)

-- `refused N at P`
unfoldable pub refusal_line : Refusal → List ℕ
refusal_line why = refused_line (number_of why) (place_of why)

-- what is said of a tick, where it is asked for
abbrev pub only_if : Bool → List ℕ → List ℕ
only_if true text = text
only_if false text = []

-- ` start S stop S`
unfoldable pub times_text : Ticks → Ticks → List ℕ
times_text start stop = marked (ascii " start ") start.0 ++ (marked (ascii " stop ") stop.0 ++ line_feed)

-- `row control node N start S stop S`
unfoldable pub control_line : ControlRow → List ℕ
control_line row = marked (ascii "row control node ") row.node.0 ++ times_text row.start row.stop

-- `row data task T deadline D start S stop S`
unfoldable pub data_line : DataRow → List ℕ
data_line row =
    marked (ascii "row data task ") row.task.0 ++ (marked (ascii " deadline ") row.deadline.0 ++ times_text row.start row.stop)

abbrev pub row_line : StartedRow → List ℕ
row_line (Control row) = control_line row
row_line (Data row) = data_line row

-- what a tick says: a refusal, or the row that starts, if one does
abbrev pub Said : Type 0
Said = Result (Option StartedRow) Refusal

-- a refusal; or the row that starts, where `rows` are asked for, and what is shown, where `shows` asks for it
abbrev pub said_text : Bool → Said → Bool → List Node → List ℕ
said_text rows (Ok (Some row)) shows nodes = only_if rows (row_line row) ++ only_if shows (shown_line nodes)
said_text rows (Ok None) shows nodes = only_if shows (shown_line nodes)
said_text rows (Err why) shows nodes = refusal_line why

-- a tick is answered with what is shown
unfoldable pub ticked_text : Bool → Said → List Node → List ℕ
ticked_text rows said nodes = said_text rows said true nodes

-- something is said of a quiet tick
abbrev pub speaks : Bool → Said → Bool → Bool
speaks rows (Ok (Some row)) shows = rows || shows
speaks rows (Ok None) shows = shows
speaks rows (Err why) shows = true

-- the k-th of quiet ticks: `after K` and what is said, or nothing
unfoldable pub quiet_text : ℕ → Bool → Said → Bool → List Node → List ℕ
quiet_text k rows said shows nodes = only_if (speaks rows said shows) (numbered_line (ascii "after ") k ++ said_text rows said shows nodes)

-- a beginning: `begun`, or its refusal
abbrev pub begun_text : Result (Unit {0}) Refusal → List ℕ
begun_text (Ok _) = ascii "begun" ++ line_feed
begun_text (Err why) = refusal_line why

-- the same is shown on every node of every task
abbrev pub same_place : List ℕ → List ℕ → ℕ → Bool
same_place a b t = eqb (get_or a t 0) (get_or b t 0)

unfoldable pub same_on : List Node → List Node → ℕ → Bool
same_on a b n = all (same_place (get_or a n no_node).shown (get_or b n no_node).shown) (up_to most_tasks)
