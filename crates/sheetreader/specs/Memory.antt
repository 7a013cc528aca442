-- What a line and a text come to, in the code's values.
use Rattle.std.specs.Prelude.{◌≡◌, Bool, true, false, cond, List, [], ◌∷◌, map, eqb, leb, length, take, drop, replicate, ℕ, ◌+◌, ◌-◌, ◌≤◌}
use Rattle.std.specs.Prelude as code
use Rattle.std.specs.Prelude.{None, Some, Result, Ok, Err}
use Rattle.std.proofs.Math.Option.{Option, none, some}
use Rattle.std.proofs.lemmas.List.Edits.{sets}
use Rattle.laws.specs.Lists.{tab}
use Rattle.laws.specs.Loops.{pad_to, placed}
use Rattle.rules.specs.Limits.{most_nodes, most_frames}
use Rattle.rules.specs.Records.{head_kind}
use Rattle.rules.specs.Plan.{nth}
use Rattle.rules.specs.Table.{DataRow}
use Rattle.table.specs.Memory.{control_node_of, control_start_of, control_stop_of}
use Rattle.table.specs.Rows.{control_in, data_in, table_in}
use Rattle.units.specs.declared.NodeNo.{NodeNo}
use Rattle.units.specs.declared.TaskNo.{TaskNo}
use Rattle.units.specs.declared.Ticks.{Ticks}
use Rattle.text.specs.Lines.{next_word, uncommented, words}
use Rattle.text.specs.declared.lines.Word.{Word}
use Rattle.sheet.specs.declared.Kind.{Kind}
use Rattle.sheet.specs.declared.Kind.TheVariants as kind
use Rattle.sheet.specs.declared.Form.{Form}
use Rattle.sheet.specs.Back as back
use Rattle.sheet.specs.Back.{SoFar, TableBack, forms_of, kind_of, may_stand, most8, most32, number_in, number_missing, numbers_in, table, unreadable_line}
use Rattle.sheetreader.specs.declared.Taken.{Taken}
use Rattle.sheetreader.specs.declared.Said.{Said}
use Rattle.sheetreader.specs.declared.Said.TheVariants.{Blank, Refusal, Cycle, Control, Data}
use Rattle.sheetreader.specs.declared.Held.{Held}
use Rattle.sheetreader.specs.declared.NoTable.{NoTable}
use Rattle.sheetreader.specs.declared.NoTable.TheVariants.{Needs, Unreadable}

-- ---- the words of a line

-- a number that may be there, as the definitions have it
abbrev pub as_option : code.Option ℕ → Option ℕ
as_option None = none
as_option (Some n) = some n

-- the number that a word says, and the place behind it; of a word that is missing the place stays
abbrev pub taken_with : Option ℕ → ℕ → code.Option Taken
taken_with none next = None
taken_with (some n) next = Some (record { value = n; next = next })

abbrev pub taken_from : List ℕ → ℕ → Form → code.Option Word → code.Option Taken
taken_from s at form None = taken_with (number_missing form) at
taken_from s at form (Some w) = taken_with (number_in form (take (w.to - w.from) (drop w.from s))) w.to

-- what the first word from a place on says, if it has the form
unfoldable pub taken_at : List ℕ → ℕ → Form → code.Option Taken
taken_at s at form = taken_from s at form (next_word s at)

-- numbers filled up with zeros; none where the words have not their forms
abbrev pub numbers_laid : Option (List ℕ) → code.Option (List ℕ)
numbers_laid none = None
numbers_laid (some ns) = Some (pad_to 10 0 ns)

-- the numbers, where no word is left
abbrev pub ended_with : List (List ℕ) → List ℕ → code.Option (List ℕ)
ended_with [] values = Some values
ended_with (w ∷ ws) values = None

-- ---- a line

-- the numbers that are taken from a line of a kind fit where they go
abbrev pub Narrow : Kind → List ℕ → Type 0
Narrow kind.Refused ns = Unit
Narrow kind.Cycle ns = nth ns 0 ≤ most32
Narrow kind.Control ns = (nth ns 0 ≤ most8) × ((nth ns 4 ≤ most32) × (nth ns 5 ≤ most32))
Narrow kind.Data ns = (nth ns 1 ≤ most8) × ((nth ns 3 ≤ most32) × ((nth ns 4 ≤ most32) × (nth ns 5 ≤ most32)))
Narrow kind.Other ns = Unit

-- what a line of a kind says by its numbers, if it can be read
abbrev pub said_of : Kind → Option (List ℕ) → code.Option Said
said_of k none = None
said_of kind.Refused (some ns) = Some Refusal
said_of kind.Cycle (some ns) = Some (Cycle (eqb (nth ns 1) 1) (record { 0 = nth ns 0 }))
said_of kind.Control (some ns) = Some (Control (record { 0 = nth ns 0 }) (record { 0 = nth ns 4 }) (record { 0 = nth ns 5 }))
said_of kind.Data (some ns) =
    Some (Data (record { 0 = nth ns 1 }) (record { 0 = nth ns 3 }) (record { 0 = nth ns 4 }) (record { 0 = nth ns 5 }))
said_of kind.Other (some ns) = None

abbrev pub words_said : ℕ → ℕ → ℕ → List (List ℕ) → code.Option Said
words_said stage controls rows [] = Some Blank
words_said stage controls rows (w ∷ ws) =
    cond (may_stand (kind_of w) stage controls rows) (said_of (kind_of w) (numbers_in (forms_of (kind_of w)) ws)) None

-- what a line says behind so many rows
unfoldable pub line_said : ℕ → ℕ → ℕ → List ℕ → code.Option Said
line_said stage controls rows line = words_said stage controls rows (words (uncommented line))

-- ---- the whole text

-- no more rows than there are places
pub record Few (held : Held) : Type 0 where
  pub controls : held.controls ≤ most_nodes
  pub rows : held.rows ≤ most_frames

-- What is held, with an array for each number of a row.
pub record Laid : Type 0 where
  pub held : Held
  pub nodes : List ℕ
  pub control_starts : List ℕ
  pub control_stops : List ℕ
  pub tasks : List ℕ
  pub deadlines : List ℕ
  pub starts : List ℕ
  pub stops : List ℕ

abbrev pub laid : Held → List ℕ → List ℕ → List ℕ → List ℕ → List ℕ → List ℕ → List ℕ → Laid
laid held nodes control_starts control_stops tasks deadlines starts stops =
    record {
      held = held;
      nodes = nodes;
      control_starts = control_starts;
      control_stops = control_stops;
      tasks = tasks;
      deadlines = deadlines;
      starts = starts;
      stops = stops;
    }

-- the numbers of a data row
abbrev pub task_of : DataRow → ℕ
task_of r = r.task

abbrev pub deadline_of : DataRow → ℕ
deadline_of r = r.deadline

abbrev pub start_of : DataRow → ℕ
start_of r = r.start

abbrev pub stop_of : DataRow → ℕ
stop_of r = r.stop

-- What was read so far, in memory: each array is filled up with zeros.
unfoldable pub lay_out : SoFar → Laid
lay_out s =
    record {
      held =
          record {
            stage = s.stage;
            consumers = s.consumers;
            period = record { 0 = s.period };
            controls = length s.control;
            rows = length s.rows;
          };
      nodes = pad_to most_nodes 0 (map control_node_of s.control);
      control_starts = pad_to most_nodes 0 (map control_start_of s.control);
      control_stops = pad_to most_nodes 0 (map control_stop_of s.control);
      tasks = pad_to most_frames 0 (map task_of s.rows);
      deadlines = pad_to most_frames 0 (map deadline_of s.rows);
      starts = pad_to most_frames 0 (map start_of s.rows);
      stops = pad_to most_frames 0 (map stop_of s.rows);
    }

-- what is held with a line more
abbrev pub with_stage : Held → ℕ → Bool → Ticks → Held
with_stage h stage consumers period =
    record { stage = stage; consumers = consumers; period = period; controls = h.controls; rows = h.rows }

abbrev pub with_counts : Held → ℕ → ℕ → Held
with_counts h controls rows =
    record { stage = h.stage; consumers = h.consumers; period = h.period; controls = controls; rows = rows }

abbrev pub with_held : Laid → Held → Laid
with_held m held =
    laid held m.nodes m.control_starts m.control_stops m.tasks m.deadlines m.starts m.stops

abbrev pub with_control : Laid → NodeNo → Ticks → Ticks → Laid
with_control m node start stop =
    laid (with_counts m.held (m.held.controls + 1) m.held.rows) (placed most_nodes m.nodes m.held.controls node.0)
    (placed most_nodes m.control_starts m.held.controls start.0)
    (placed most_nodes m.control_stops m.held.controls stop.0)
    m.tasks m.deadlines m.starts m.stops

abbrev pub with_data : Laid → TaskNo → Ticks → Ticks → Ticks → Laid
with_data m task deadline start stop =
    laid (with_counts m.held m.held.controls (m.held.rows + 1)) m.nodes m.control_starts m.control_stops
    (placed most_frames m.tasks m.held.rows task.0)
    (placed most_frames m.deadlines m.held.rows deadline.0)
    (placed most_frames m.starts m.held.rows start.0)
    (placed most_frames m.stops m.held.rows stop.0)

abbrev pub with_said : Said → Laid → Laid
with_said Blank m = m
with_said Refusal m = with_held m (with_stage m.held 1 m.held.consumers m.held.period)
with_said (Cycle consumers period) m = with_held m (with_stage m.held 2 consumers period)
with_said (Control node start stop) m = with_control m node start stop
with_said (Data task deadline start stop) m = with_data m task deadline start stop

-- What gathering a text comes to: what was read is laid out; where a line cannot be read, only its number counts.
abbrev pub Gathered : Result Held NoTable → List ℕ → List ℕ → List ℕ → List ℕ → List ℕ → List ℕ → List ℕ → back.Back → Type 0
Gathered r nodes control_starts control_stops tasks deadlines starts stops (back.sheet s) =
    (r ≡ Ok (lay_out s).held) × (laid (lay_out s).held nodes control_starts control_stops tasks deadlines starts stops ≡ lay_out s)
Gathered r nodes control_starts control_stops tasks deadlines starts stops (back.unreadable n) = r ≡ Err (Unreadable n)

-- the bytes of the table that is held
unfoldable pub bytes_in : Laid → List ℕ
bytes_in m =
    table_in (head_kind m.held.consumers) m.held.period.0 (tab (control_in m.nodes m.control_starts m.control_stops) 0 m.held.controls)
    (tab (data_in m.tasks m.deadlines m.starts m.stops) 0 m.held.rows) m.held.controls m.held.rows

-- What reading a text back gives, and what it leaves in the bytes that are lent: the table stands there only if all of it does.
abbrev pub back_for : TableBack → List ℕ → Result ℕ NoTable
back_for (table bytes) lent = cond (leb (length bytes) (length lent)) (Ok (length bytes)) (Err (Needs (length bytes)))
back_for (unreadable_line n) lent = Err (Unreadable n)

abbrev pub left_by : TableBack → List ℕ → List ℕ
left_by (table bytes) lent = cond (leb (length bytes) (length lent)) (sets lent 0 bytes) lent
left_by (unreadable_line n) lent = lent
