-- docs/RULES.md, section 7: the checker, refusals 20 to 28, and `check` with the lent rows, on every outcome (readings 17 to 21).
use Rattle.std.specs.Prelude.{Bool, true, false, cond, not, ◌&&◌, List, [], ◌∷◌, map, eqb, leb, length, get_or, take, replicate, ℕ, zero, suc, ◌+◌}
use Rattle.laws.specs.Res.{Res, ok, refuse, ◌>>=◌, ◌>>◌, unless, at}
use Rattle.laws.specs.Lists.{keep, any, all, joined, first_bad, last_d, up_to}
use Rattle.laws.specs.Numbers.{divides}
use Rattle.rules.specs.Records.{Rec, is_head, head_kind, records, table_follows}
use Rattle.rules.specs.Plan.{Plan, nth, things, numbers_of, zero_record}
use Rattle.rules.specs.Limits.{most_frames}
use Rattle.rules.specs.Traffic.{Traffic, read_in, traffic}
use Rattle.rules.specs.Frames.{Pair, ControlRow, no_control_row, Layout, layout}
use Rattle.rules.specs.LatestRelease.{no_pair}
use Rattle.rules.specs.Table.{DataRow, FrameRow, zero_row, rows_then_zero}

-- What a table calls a pair: its task and its deadline.
pub record Named : Type 0 where
  pub task : ℕ
  pub deadline : ℕ

-- A data row: the pair that opens it, all pairs that it holds, start and stop.
pub record Row : Type 0 where
  pub opens : Named
  pub holds : List Named
  pub start : ℕ
  pub stop : ℕ

-- the row of a record that stands for itself: it holds the pair that opens it, and no other
unfoldable pub name_of : DataRow → Named
name_of r = record { task = r.task; deadline = r.deadline }

unfoldable pub row_of : DataRow → Row
row_of r = record { opens = name_of r; holds = name_of r ∷ []; start = r.start; stop = r.stop }

-- A table as it was read: what the head says, the control rows and the data rows in file order.
pub record TableRead : Type 0 where
  pub period : ℕ
  pub controls : ℕ
  pub datas : ℕ
  pub control : List ControlRow
  pub rows : List Row

unfoldable pub control_row_of : List ℕ → ControlRow
control_row_of b = record { node = nth b 0; start = nth b 1; stop = nth b 2 }

unfoldable pub data_row_of : List ℕ → DataRow
data_row_of b = record { task = nth b 0; deadline = nth b 1; start = nth b 2; stop = nth b 3 }

-- the first head, of either kind
unfoldable pub is_head_record : Rec → Bool
is_head_record r = is_head r.kind

unfoldable pub head_of : List Rec → List ℕ
head_of rs = numbers_of (get_or (keep is_head_record rs) 0 zero_record)

unfoldable pub table_of : List Rec → TableRead
table_of rs =
    record {
      period = nth (head_of rs) 0;
      controls = nth (head_of rs) 1;
      datas = nth (head_of rs) 2;
      control = map control_row_of (things 17 rs);
      rows = map row_of (map data_row_of (things 18 rs));
    }

-- Refusal 21 (rule 7.21): the head's period is P, and its counts and the rows present are as many as the plan gives (reading 18).
unfoldable pub header_right : Layout → TableRead → Bool
header_right l t =
    eqb t.period l.period
    && ((eqb t.controls (length l.control) && eqb t.datas (length l.pairs))
    && (eqb (length t.control) (length l.control) && eqb (length t.rows) (length l.pairs)))

unfoldable pub control_at : List ControlRow → ℕ → ControlRow
control_at rows k = get_or rows k no_control_row

abbrev pub no_row : Row
no_row = record { opens = record { task = 0; deadline = 0 }; holds = []; start = 0; stop = 0 }

unfoldable pub row_at : TableRead → ℕ → Row
row_at t k = get_or t.rows k no_row

-- Refusal 22 (rule 7.22): a control row has node, start and stop of the one that the plan fixes.
unfoldable pub same_control : ControlRow → ControlRow → Bool
same_control a b = eqb a.node b.node && (eqb a.start b.start && eqb a.stop b.stop)

unfoldable pub control_kept : Layout → TableRead → ℕ → Bool
control_kept l t k = same_control (control_at t.control k) (control_at l.control k)

-- Refusal 23 (rule 7.23): each pair that a data row holds is one of the plan's, and no row before holds it, so the later row of two is at
-- fault (reading 19); and its pairs may be in one row.
unfoldable pub is_pair_of : Named → Pair → Bool
is_pair_of n f = eqb n.task f.task && eqb n.deadline f.deadline

unfoldable pub same_name : Named → Named → Bool
same_name n m = eqb n.task m.task && eqb n.deadline m.deadline

abbrev pub holds_of : Row → List Named
holds_of r = r.holds

unfoldable pub held_before : TableRead → ℕ → List Named
held_before t k = joined (map holds_of (take k t.rows))

unfoldable pub is_new : Layout → TableRead → ℕ → Named → Bool
is_new l t k n = any (is_pair_of n) l.pairs && not (any (same_name n) (held_before t k))

-- the pair that a name stands for, and the pairs that a row holds
unfoldable pub named_in : List Pair → Named → Pair
named_in [] n = no_pair
named_in (f ∷ fs) n = cond (is_pair_of n f) f (named_in fs n)

unfoldable pub pairs_of_row : Layout → TableRead → ℕ → List Pair
pairs_of_row l t k = map (named_in l.pairs) (row_at t k).holds

unfoldable pub names_new : Layout → TableRead → ℕ → Bool
names_new l t k = all (is_new l t k) (row_at t k).holds && l.together (pairs_of_row l t k)

-- Refusal 24 (rule 7.24): a data row stops its sending time behind its start, and starts on the grid (reading 20).
unfoldable pub time_kept : Layout → TableRead → ℕ → Bool
time_kept l t k =
    eqb (row_at t k).stop ((row_at t k).start + l.time (pairs_of_row l t k)) && divides l.grid (row_at t k).start

-- Refusal 25 (rule 7.25): a data row starts when each of its pairs is released, or later.
unfoldable pub is_released_by : ℕ → Pair → Bool
is_released_by start f = leb f.release start

unfoldable pub release_kept : Layout → TableRead → ℕ → Bool
release_kept l t k = all (is_released_by (row_at t k).start) (pairs_of_row l t k)

-- Refusal 26 (rule 7.26): a data row stops by the deadline of each of its pairs.
unfoldable pub is_due_from : ℕ → Named → Bool
is_due_from stop n = leb stop n.deadline

unfoldable pub deadline_kept : TableRead → ℕ → Bool
deadline_kept t k = all (is_due_from (row_at t k).stop) (row_at t k).holds

-- Refusal 27 (rule 7.27): a data row starts a gap or more behind the stop of the row before it in the file; before the first stands the
-- last control row (reading 21).
abbrev pub stop_before : TableRead → ℕ → ℕ
stop_before t zero = (last_d t.control no_control_row).stop
stop_before t (suc k) = (row_at t k).stop

unfoldable pub gap_kept : Layout → TableRead → ℕ → Bool
gap_kept l t k = leb (stop_before t k + l.gap) (row_at t k).start

-- Refusal 28 (rule 7.28): the last row stops a gap or more before P, when the next cycle's first control row starts.
unfoldable pub last_kept : Layout → TableRead → Bool
last_kept l t = leb (stop_before t (length t.rows) + l.gap) l.period

-- the record of the first data row: the head is record 0, the control rows follow it (reading 6)
unfoldable pub first_row : TableRead → ℕ
first_row t = 1 + length t.control

-- and that of the last
unfoldable pub last_row : TableRead → ℕ
last_row t = length t.control + length t.rows

-- refusal n at the lowest data row that fails the test
unfoldable pub rows_keep : ℕ → TableRead → (ℕ → Bool) → Res (Unit {0})
rows_keep n t test = at n (first_row t) (first_bad test (up_to (length t.rows)))

-- Refusals 21 to 28 by rule 7.2: each over all its rows before the next, and at the lowest record that breaks it. First the shape of the
-- rows (21 to 24), then when they are sent (25 to 28).
unfoldable pub shaped : Layout → TableRead → Res (Unit {0})
shaped l t = do
  unless 21 0 (header_right l t)
  at 22 1 (first_bad (control_kept l t) (up_to (length t.control)))
  rows_keep 23 t (names_new l t)
  rows_keep 24 t (time_kept l t)

unfoldable pub timed : Layout → TableRead → Res (Unit {0})
timed l t = do
  rows_keep 25 t (release_kept l t)
  rows_keep 26 t (deadline_kept t)
  rows_keep 27 t (gap_kept l t)
  unless 28 (last_row t) (last_kept l t)

unfoldable pub judged : Layout → TableRead → Res (Unit {0})
judged l t = do
  shaped l t
  timed l t

-- A passed table: its plan in the table's edition, what the plan sends, what it asks of the bus, and the table as it was read.
pub record Passed : Type 0 where
  pub plan : Plan
  pub traffic : Traffic
  pub layout : Layout
  pub table : TableRead

-- Rule 21.1: a table is of the consumer edition where its first byte is that edition's kind of head, whatever follows; so an empty one is
-- not.
unfoldable pub is_for_consumers : List ℕ → Bool
is_for_consumers table = eqb (get_or table 0 0) (head_kind true)

-- Rules 7.1 to 7.3: 1 to 11 of the plan in the table's edition, then 20 to 28 of the table; otherwise it passes.
unfoldable pub check_files : List ℕ → List ℕ → Res Passed
check_files plan table = do
  p ← read_in (is_for_consumers table) plan
  l ← layout p
  rs ← records table_follows 20 table
  judged l (table_of rs)
  ok (record { plan = p; traffic = traffic p; layout = l; table = table_of rs })

-- The same up to 24 (rule 17.1): each row is one that the plan asks for, and takes as long as it has to; whether it stands where it may is not asked.
unfoldable pub located : List ℕ → List ℕ → Res Passed
located plan table = do
  p ← read_in (is_for_consumers table) plan
  l ← layout p
  rs ← records table_follows 20 table
  shaped l (table_of rs)
  ok (record { plan = p; traffic = traffic p; layout = l; table = table_of rs })

-- the row that holds a pair
unfoldable pub holds_pair : Pair → Row → Bool
holds_pair f r = any (λ n. is_pair_of n f) r.holds

unfoldable pub row_holding : List Row → Pair → Row
row_holding [] f = no_row
row_holding (r ∷ rs) f = cond (holds_pair f r) r (row_holding rs f)

unfoldable pub checked_row : TableRead → Pair → FrameRow
checked_row t f =
    record { task = f.task; release = f.release; deadline = f.deadline; start = (row_holding t.rows f).start }

-- What `check` leaves: its answer and the lent rows.
pub record Checked : Type 0 where
  pub answer : Res (Unit {0})
  pub rows : List FrameRow

-- Rule 7.4: where the table passes the frames' rows have its starts, and zero rows follow; a refusal leaves zero rows.
abbrev pub check_outcome : Res Passed → List FrameRow → Checked
check_outcome (ok c) rows =
    record { answer = ok tt; rows = rows_then_zero (map (checked_row c.table) c.layout.pairs) (length rows) }
check_outcome (refuse n p) rows = record { answer = refuse n p; rows = replicate (length rows) zero_row }

-- Refusal 19 before all (rule 7.1): the rows stay as they were.
unfoldable pub check : List ℕ → List ℕ → List FrameRow → Checked
check plan table rows =
    elim (leb most_frames (length rows)) [
      | true ↦ check_outcome (check_files plan table) rows
      | false ↦ record { answer = refuse 19 most_frames; rows = rows }
    ]
