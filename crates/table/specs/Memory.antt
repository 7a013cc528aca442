-- How a table stands in memory: from the rules' table to its numbers there (`lay_out`), from these to the rules' table (`seen`), and
-- what each record of a file adds.
use Rattle.std.specs.Prelude.{cond, List, [], ◌∷◌, map, eqb, length, drop, ℕ, ◌+◌}
use Rattle.laws.specs.Res.{Res, ok, refuse}
use Rattle.laws.specs.Lists.{tab}
use Rattle.laws.specs.Loops.{pad_to, placed}
use Rattle.rules.specs.Limits.{most_nodes, most_frames}
use Rattle.rules.specs.Records.{Rec, record_of}
use Rattle.rules.specs.Plan.{nth}
use Rattle.rules.specs.Frames.{ControlRow}
use Rattle.rules.specs.Table.{DataRow}
use Rattle.rules.specs.Checker.{Row, row_of, TableRead, table_of, control_row_of, data_row_of}
use Rattle.table.specs.declared.Header.{Header}
use Rattle.table.specs.declared.Heading.{Heading}
use Rattle.table.specs.declared.read.Outcome.{Outcome}
use Rattle.table.specs.declared.read.Outcome.TheVariants.{Whole, Broken}
use Rattle.table.specs.declared.read.Reading.{Reading}
use Rattle.table.specs.declared.read.Gathered.{Gathered}
use Rattle.table.specs.Rows.{control_in, data_in}

-- A table in memory: the heading, and an array for each number of a data row, which the caller lends.
pub record Table : Type 0 where
  pub header : Header
  pub controls : ℕ
  pub control_nodes : List ℕ
  pub control_starts : List ℕ
  pub control_stops : List ℕ
  pub rows : ℕ
  pub tasks : List ℕ
  pub deadlines : List ℕ
  pub starts : List ℕ
  pub stops : List ℕ

-- a table without the numbers of its data rows
abbrev pub heading_of : Table → Heading
heading_of t =
    record {
      header = t.header;
      controls = t.controls;
      control_nodes = t.control_nodes;
      control_starts = t.control_starts;
      control_stops = t.control_stops;
      rows = t.rows;
    }

-- a heading with the numbers of its data rows
abbrev pub table_with : Heading → List ℕ → List ℕ → List ℕ → List ℕ → Table
table_with h tasks deadlines starts stops =
    record {
      header = h.header;
      controls = h.controls;
      control_nodes = h.control_nodes;
      control_starts = h.control_starts;
      control_stops = h.control_stops;
      rows = h.rows;
      tasks = tasks;
      deadlines = deadlines;
      starts = starts;
      stops = stops;
    }

-- How reading a file ended, and its table.
pub record ReadTable : Type 0 where
  pub outcome : Outcome
  pub table : Table

-- what was read, with the arrays of the data rows beside it
abbrev pub read_with : Reading → List ℕ → List ℕ → List ℕ → List ℕ → ReadTable
read_with r tasks deadlines starts stops = record { outcome = r.outcome; table = table_with r.heading tasks deadlines starts stops }

-- the numbers of a control row and of a data row that holds one pair
abbrev pub control_node_of : ControlRow → ℕ
control_node_of r = r.node

abbrev pub control_start_of : ControlRow → ℕ
control_start_of r = r.start

abbrev pub control_stop_of : ControlRow → ℕ
control_stop_of r = r.stop

abbrev pub task_of : Row → ℕ
task_of r = r.opens.task

abbrev pub deadline_of : Row → ℕ
deadline_of r = r.opens.deadline

abbrev pub start_of : Row → ℕ
start_of r = r.start

abbrev pub stop_of : Row → ℕ
stop_of r = r.stop

-- A table in memory: its counts, each array filled up with zeros; a row without a place left is not stored.
unfoldable pub lay_out : TableRead → Table
lay_out t =
    record {
      header = record { period = record { 0 = t.period }; controls = t.controls; datas = t.datas };
      controls = length t.control;
      control_nodes = pad_to most_nodes 0 (map control_node_of t.control);
      control_starts = pad_to most_nodes 0 (map control_start_of t.control);
      control_stops = pad_to most_nodes 0 (map control_stop_of t.control);
      rows = length t.rows;
      tasks = pad_to most_frames 0 (map task_of t.rows);
      deadlines = pad_to most_frames 0 (map deadline_of t.rows);
      starts = pad_to most_frames 0 (map start_of t.rows);
      stops = pad_to most_frames 0 (map stop_of t.rows);
    }

-- the table with nothing in it
unfoldable pub no_table : TableRead
no_table = record { period = 0; controls = 0; datas = 0; control = []; rows = [] }

unfoldable pub empty_table : Table
empty_table = lay_out no_table

-- data row k
unfoldable pub row_seen : Table → ℕ → Row
row_seen t k = row_of (data_in t.tasks t.deadlines t.starts t.stops k)

-- The table that a table in memory stands for: as many rows as are counted.
unfoldable pub seen : Table → TableRead
seen t =
    record {
      period = t.header.period.0;
      controls = t.header.controls;
      datas = t.header.datas;
      control = tab (control_in t.control_nodes t.control_starts t.control_stops) 0 t.controls;
      rows = tab (row_seen t) 0 t.rows;
    }

-- the table that is held in these places
unfoldable pub table_from : Header → ℕ → ℕ → List ℕ → List ℕ → List ℕ → List ℕ → List ℕ → List ℕ → List ℕ → Table
table_from head controls rows control_nodes control_starts control_stops tasks deadlines starts stops =
    record {
      header = head;
      controls = controls;
      control_nodes = control_nodes;
      control_starts = control_starts;
      control_stops = control_stops;
      rows = rows;
      tasks = tasks;
      deadlines = deadlines;
      starts = starts;
      stops = stops;
    }

unfoldable pub header_of : List ℕ → Header
header_of b = record { period = record { 0 = nth b 0 }; controls = nth b 1; datas = nth b 2 }

-- what the file says at a place, if a body of that kind begins there
unfoldable pub header_read : List ℕ → ℕ → Header
header_read s body = header_of (record_of 16 (drop body s)).numbers

unfoldable pub control_read : List ℕ → ℕ → ControlRow
control_read s body = control_row_of (record_of 17 (drop body s)).numbers

unfoldable pub row_read : List ℕ → ℕ → DataRow
row_read s body = data_row_of (record_of 18 (drop body s)).numbers

-- What a record adds: the header, a control row or a data row, counted, and stored if a place is left.
unfoldable pub with_header : Table → Header → Table
with_header t h =
    table_from h t.controls t.rows t.control_nodes t.control_starts t.control_stops t.tasks t.deadlines t.starts t.stops

unfoldable pub with_control : Table → ControlRow → Table
with_control t r =
    table_from t.header (t.controls + 1) t.rows (placed most_nodes t.control_nodes t.controls r.node)
    (placed most_nodes t.control_starts t.controls r.start)
    (placed most_nodes t.control_stops t.controls r.stop)
    t.tasks t.deadlines t.starts t.stops

unfoldable pub with_row : Table → DataRow → Table
with_row t r =
    table_from t.header t.controls (t.rows + 1) t.control_nodes t.control_starts t.control_stops
    (placed most_frames t.tasks t.rows r.task)
    (placed most_frames t.deadlines t.rows r.deadline)
    (placed most_frames t.starts t.rows r.start)
    (placed most_frames t.stops t.rows r.stop)

unfoldable pub with_record : Table → Rec → Table
with_record t r =
    cond (eqb r.kind 18) (with_row t (data_row_of r.numbers))
    (cond (eqb r.kind 17) (with_control t (control_row_of r.numbers)) (with_header t (header_of r.numbers)))

abbrev pub with_records : Table → List Rec → Table
with_records t [] = t
with_records t (r ∷ rs) = with_records (with_record t r) rs

-- a table where the file is whole, no table where it is broken
abbrev pub reading : Outcome → Table → ReadTable
reading Whole t = record { outcome = Whole; table = t }
reading (Broken place) t = record { outcome = Broken place; table = empty_table }

-- What gathering comes to from a table on, by what the record rules say of the rest of the file.
abbrev pub gathered_from : Table → Res (List Rec) → ReadTable
gathered_from t (ok rs) = reading Whole (with_records t rs)
gathered_from t (refuse n place) = reading (Broken (record { 0 = place })) t

-- What reading a file comes to: the table of its records, or refusal 20's place.
abbrev pub reading_of : Res (List Rec) → ReadTable
reading_of (ok rs) = reading Whole (lay_out (table_of rs))
reading_of (refuse n place) = reading (Broken (record { 0 = place })) empty_table

-- what was gathered, with the arrays beside it
unfoldable pub reported : Gathered → List ℕ → List ℕ → List ℕ → List ℕ → List ℕ → List ℕ → List ℕ → ReadTable
reported g control_nodes control_starts control_stops tasks deadlines starts stops =
    reading g.outcome
    (table_from g.header g.controls g.rows control_nodes control_starts control_stops tasks deadlines starts stops)
