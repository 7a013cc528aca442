-- docs/RULES.md, section 6: the table's bytes, refusals 13 and 19, and `make` with what was lent, on every outcome (readings 16 and 17).
use Rattle.std.specs.Prelude.{Bool, true, false, cond, List, [], ◌∷◌, ◌++◌, map, eqb, leb, length, drop, replicate, ℕ, suc, ◌+◌, ◌-◌, ◌*◌}
use Rattle.laws.specs.Res.{Res, ok, refuse, ◌>>=◌, ◌>>◌, unless}
use Rattle.laws.specs.Lists.{any, joined}
use Rattle.laws.specs.Numbers.{bytes}
use Rattle.rules.specs.Records.{Field, width, fields, body_length}
use Rattle.rules.specs.Limits.{most_nodes, most_frames}
use Rattle.rules.specs.Traffic.{read_in}
use Rattle.rules.specs.Frames.{Pair, ControlRow, Layout, layout}
use Rattle.rules.specs.LatestRelease.{Numbered, Placed, latest_release}

-- a body's numbers as bytes, by the kind's fields
abbrev pub encoded : List Field → List ℕ → List ℕ
encoded [] numbers = []
encoded (f ∷ fs) [] = []
encoded (f ∷ fs) (x ∷ xs) = bytes (width f) x ++ encoded fs xs

unfoldable pub record_bytes : ℕ → List ℕ → List ℕ
record_bytes kind numbers = kind ∷ encoded (fields kind) numbers

-- A data row as its record (kind 18) says it: task and deadline of the pair that opens it, start and stop.
pub record DataRow : Type 0 where
  pub task : ℕ
  pub deadline : ℕ
  pub start : ℕ
  pub stop : ℕ

-- A placed row: the pairs that it holds, by number, the one that opens it in front; and its start.
pub record PlacedRow : Type 0 where
  pub opens : Numbered
  pub others : List Numbered
  pub start : ℕ

abbrev pub pair_of_numbered : Numbered → Pair
pair_of_numbered x = x.pair

unfoldable pub held_in : PlacedRow → List Numbered
held_in r = r.opens ∷ r.others

unfoldable pub pairs_in : PlacedRow → List Pair
pairs_in r = map pair_of_numbered (held_in r)

-- each pair in a row of its own: what the latest-release rule gives
unfoldable pub alone : Placed → PlacedRow
alone x = record { opens = record { number = x.number; pair = x.pair }; others = []; start = x.start }

unfoldable pub data_row : Layout → PlacedRow → DataRow
data_row l r =
    record {
      task = r.opens.pair.task;
      deadline = r.opens.pair.deadline;
      start = r.start;
      stop = r.start + l.time (pairs_in r);
    }

unfoldable pub header_bytes : ℕ → ℕ → ℕ → ℕ → List ℕ
header_bytes head period controls datas = record_bytes head (period ∷ controls ∷ datas ∷ [])

unfoldable pub control_bytes : ControlRow → List ℕ
control_bytes r = record_bytes 17 (r.node ∷ r.start ∷ r.stop ∷ [])

unfoldable pub data_bytes : DataRow → List ℕ
data_bytes r = record_bytes 18 (r.task ∷ r.deadline ∷ r.start ∷ r.stop ∷ [])

-- Rule 2.6: a head of this kind that counts the rows, the control rows, the data rows, the end.
unfoldable pub table_of_rows : ℕ → ℕ → List ControlRow → List DataRow → List ℕ
table_of_rows head period control rows =
    header_bytes head period (length control) (length rows)
    ++ (joined (map control_bytes control) ++ (joined (map data_bytes rows) ++ (0 ∷ [])))

-- Rules 2.6, 6.34 and 21.1: the head, of the edition's kind, with P and the numbers of rows, the control rows, the data rows by start, the end.
unfoldable pub table_bytes : Layout → List PlacedRow → List ℕ
table_bytes l rows =
    header_bytes l.head l.period (length l.control) (length rows)
    ++ (joined (map control_bytes l.control) ++ (joined (map data_bytes (map (data_row l) rows)) ++ (0 ∷ [])))

-- Rule 2.2: a record is the byte of its kind and its body. So a table is as long as its head, its control rows, its data rows and its end.
unfoldable pub record_length : ℕ → ℕ
record_length kind = 1 + body_length kind

unfoldable pub table_length : ℕ → ℕ → ℕ
table_length controls datas = record_length 16 + record_length 17 * controls + record_length 18 * datas + record_length 0

-- Rule 3.4: the longest table has a control row for each node and as many data rows as there may be frames.
unfoldable pub longest_table : ℕ
longest_table = table_length most_nodes most_frames

-- A frame row (rule 4.15): task, release, deadline, and the start that the table gives.
pub record FrameRow : Type 0 where
  pub task : ℕ
  pub release : ℕ
  pub deadline : ℕ
  pub start : ℕ

abbrev pub zero_row : FrameRow
zero_row = record { task = 0; release = 0; deadline = 0; start = 0 }

-- the start of the row that holds the pair of this number
unfoldable pub is_number : ℕ → Numbered → Bool
is_number k x = eqb x.number k

unfoldable pub start_for : List PlacedRow → ℕ → ℕ
start_for [] k = 0
start_for (r ∷ rs) k = cond (any (is_number k) (held_in r)) r.start (start_for rs k)

unfoldable pub rows_from : List PlacedRow → ℕ → List Pair → List FrameRow
rows_from rows k [] = []
rows_from rows k (f ∷ fs) =
    record { task = f.task; release = f.release; deadline = f.deadline; start = start_for rows k }
    ∷ rows_from rows (suc k) fs

-- Rule 4.15: the frames' rows by number, then zero rows to the end of what was lent.
unfoldable pub rows_then_zero : List FrameRow → ℕ → List FrameRow
rows_then_zero rows lent = rows ++ replicate (lent - length rows) zero_row

-- A table made: its bytes and the frame rows.
pub record MadeTable : Type 0 where
  pub table : List ℕ
  pub rows : List FrameRow

unfoldable pub made_table : Layout → List PlacedRow → MadeTable
made_table l rows = record { table = table_bytes l rows; rows = rows_from rows 0 l.pairs }

-- Rule 21.1: the caller chooses the edition. Refusals 1 to 13 in order; 13 where the table is longer than the room, at the table's length (rule 6.13).
unfoldable pub table_for : Bool → List ℕ → ℕ → Res MadeTable
table_for consumers plan room = do
  p ← read_in consumers plan
  l ← layout p
  placed ← latest_release l
  let t = made_table l (map alone placed)
  unless 13 (length t.table) (leb (length t.table) room)
  ok t

-- What `make` leaves: its answer (the table's length, or the refusal), the lent rows and the lent buffer.
pub record Made : Type 0 where
  pub answer : Res ℕ
  pub rows : List FrameRow
  pub buffer : List ℕ

-- What is left in lent memory: the table before the old bytes, and the frames' rows (rule 6.34); where it is refused the buffer as it
-- was, and zero rows (rules 6.32 and 6.33).
abbrev pub outcome : Res MadeTable → List FrameRow → List ℕ → Made
outcome (ok t) rows buffer =
    record {
      answer = ok (length t.table);
      rows = rows_then_zero t.rows (length rows);
      buffer = t.table ++ drop (length t.table) buffer;
    }
outcome (refuse n p) rows buffer =
    record { answer = refuse n p; rows = replicate (length rows) zero_row; buffer = buffer }

-- Refusal 19 (rule 6.19) before all else: too few frame rows are lent. Rows and buffer stay as they were (rules 6.31 to 6.33).
unfoldable pub make : Bool → List ℕ → List FrameRow → List ℕ → Made
make consumers plan rows buffer =
    elim (leb most_frames (length rows)) [
      | true ↦ outcome (table_for consumers plan (length buffer)) rows buffer
      | false ↦ record { answer = refuse 19 most_frames; rows = rows; buffer = buffer }
    ]
