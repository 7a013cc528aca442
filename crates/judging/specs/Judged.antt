-- Refusals 21 to 28 over the parts that they look at: the fixed control rows, the frames by number, the sending time of each task's
-- message, and the numbers of the bus. Of a row only the pair that opens it is looked at. `judged` of the rules is this for the parts of a
-- layout and a table whose rows hold no other pair (proofs/Layouts.antt).
use Rattle.std.specs.Prelude.{◌≡◌, Bool, true, false, not, ◌&&◌, List, map, ◌⊎◌, eqb, leb, length, get_or, take, ℕ, ◌+◌, ◌≤◌, ◌<◌}
use Rattle.std.proofs.Math.Option.{Option, none}
use Rattle.laws.specs.Res.{Res, ok, unless, at, ◌>>◌}
use Rattle.laws.specs.Lists.{any, first_bad, tab, up_to}
use Rattle.laws.specs.Loops.{pad_to}
use Rattle.laws.specs.Numbers.{divides}
use Rattle.rules.specs.Limits.{most_tasks, most_frames}
use Rattle.rules.specs.Frames.{Pair, ControlRow}
use Rattle.rules.specs.Checker.{
  Row,
  TableRead,
  control_at,
  row_at,
  same_control,
  is_pair_of,
  same_name,
  named_in,
  stop_before,
  last_row,
  rows_keep,
  row_holding,
}
use Rattle.std.specs.Prelude as code
use Rattle.std.specs.Prelude.{Result, Some, None}
use Rattle.answers.specs.declared.Refusal.{Refusal}
use Rattle.answers.specs.Answered.{judged}
use Rattle.table.specs.declared.Header.{Header}
use Rattle.judging.specs.declared.Bounds.{Bounds}
use Rattle.line.specs.Line.{Drawing}
use Rattle.naming.specs.Places.{look_in}
use Rattle.table.specs.Rows.{control_in}

-- Rule 21: the cycle, both counts of the header, and the number of rows of each kind are the plan's.
unfoldable pub header_fits : List ControlRow → List Pair → Bounds → TableRead → Bool
header_fits control frames b t =
    eqb t.period b.period.0
    && ((eqb t.controls (length control) && eqb t.datas (length frames))
    && (eqb (length t.control) (length control) && eqb (length t.rows) (length frames)))

-- Rule 22: each control row is the one that the plan fixes.
unfoldable pub control_fits : List ControlRow → TableRead → ℕ → Bool
control_fits control t k = same_control (control_at t.control k) (control_at control k)

-- Rule 23: a data row names a frame, and none before it names the same.
unfoldable pub same_pair : Row → Row → Bool
same_pair r s = same_name r.opens s.opens

unfoldable pub names_new : List Pair → TableRead → ℕ → Bool
names_new frames t k =
    any (is_pair_of (row_at t k).opens) frames && not (any (same_pair (row_at t k)) (take k t.rows))

-- Rule 24: a row stops its sending time after its start, and starts on the resolution.
unfoldable pub time_fits : List Pair → (ℕ → ℕ) → Bounds → TableRead → ℕ → Bool
time_fits frames time b t k =
    eqb (row_at t k).stop ((row_at t k).start + time (named_in frames (row_at t k).opens).task)
    && divides b.resolution.0 (row_at t k).start

-- Rule 25: no row starts before its frame's release.
unfoldable pub release_fits : List Pair → TableRead → ℕ → Bool
release_fits frames t k = leb (named_in frames (row_at t k).opens).release (row_at t k).start

-- Rule 26: no row stops behind its deadline.
unfoldable pub due_fits : TableRead → ℕ → Bool
due_fits t k = leb (row_at t k).stop (row_at t k).opens.deadline

-- Rule 27: a row starts no earlier than the gap after the stop of the row before it, be that a control row.
unfoldable pub gap_fits : Bounds → TableRead → ℕ → Bool
gap_fits b t k = leb (stop_before t k + b.gap.0) (row_at t k).start

-- Rule 28: the last row stops no later than the gap before P.
unfoldable pub end_fits : Bounds → TableRead → Bool
end_fits b t = leb (stop_before t (length t.rows) + b.gap.0) b.period.0

-- Refusals 24 to 28, on the data rows.
unfoldable pub times_judged : List Pair → (ℕ → ℕ) → Bounds → TableRead → Res (Unit {0})
times_judged frames time b t = do
  rows_keep 24 t (time_fits frames time b t)
  rows_keep 25 t (release_fits frames t)
  rows_keep 26 t (due_fits t)
  rows_keep 27 t (gap_fits b t)
  unless 28 (last_row t) (end_fits b t)

-- Refusals 23 to 28.
unfoldable pub rows_judged : List Pair → (ℕ → ℕ) → Bounds → TableRead → Res (Unit {0})
rows_judged frames time b t = do
  rows_keep 23 t (names_new frames t)
  times_judged frames time b t

unfoldable pub judged_for : List ControlRow → List Pair → (ℕ → ℕ) → Bounds → TableRead → Res (Unit {0})
judged_for control frames time b t = do
  unless 21 0 (header_fits control frames b t)
  at 22 1 (first_bad (control_fits control t) (up_to (length t.control)))
  rows_judged frames time b t

-- the same of the numbers that it looks at
unfoldable pub header_same : Header → ℕ → ℕ → Bounds → ℕ → ℕ → Bool
header_same head control rows b controls frames =
    eqb head.period.0 b.period.0
    && ((eqb head.controls controls && eqb head.datas frames) && (eqb control controls && eqb rows frames))

-- the same of two rules of control rows, by places
unfoldable pub controls_same : (ℕ → ControlRow) → (ℕ → ControlRow) → ℕ → Bool
controls_same here fixed k = same_control (here k) (fixed k)

-- the frames that stand in arrays, and the time of a task's message
unfoldable pub frame_in : List ℕ → List ℕ → List ℕ → ℕ → Pair
frame_in tasks releases deadlines k =
    record { task = get_or tasks k 0; release = get_or releases k 0; deadline = get_or deadlines k 0 }

unfoldable pub frames_in : List ℕ → List ℕ → List ℕ → ℕ → List Pair
frames_in tasks releases deadlines n = tab (frame_in tasks releases deadlines) 0 n

unfoldable pub time_in : List ℕ → ℕ → ℕ
time_in times task = look_in most_tasks times task

-- the parts of a line: its control rows, its frames, the numbers of its bus; and a table judged by them
unfoldable pub controls_on : Drawing → List ControlRow
controls_on l = tab (control_in l.control_nodes l.control_starts l.control_stops) 0 l.controls

unfoldable pub frames_on : Drawing → List Pair
frames_on l = frames_in l.tasks l.releases l.deadlines l.frames

unfoldable pub bounds_on : Drawing → Bounds
bounds_on l = record { period = l.period; resolution = l.resolution; gap = l.gap }

unfoldable pub line_judged : Drawing → TableRead → Res (Unit {0})
line_judged l t = judged_for (controls_on l) (frames_on l) (time_in l.times) (bounds_on l) t

-- what a scan found lies among the first n places
abbrev pub Among : ℕ → code.Option ℕ → Type 0
Among n (Some k) = k < n
Among n None = Unit {0}

-- refusals 24 to 28, and 23 to 28, by the first row that breaks each; the first row is record `first`, and `end` is what 28 says
abbrev pub times_in_order : ℕ → Option ℕ → Option ℕ → Option ℕ → Option ℕ → Res (Unit {0}) → Res (Unit {0})
times_in_order first mistimed early late crowded end = do
  at 24 first mistimed
  at 25 first early
  at 26 first late
  at 27 first crowded
  end

abbrev pub in_order : ℕ → Option ℕ → Option ℕ → Option ℕ → Option ℕ → Option ℕ → Res (Unit {0}) → Res (Unit {0})
in_order first unnamed mistimed early late crowded end = do
  at 23 first unnamed
  times_in_order first mistimed early late crowded end

-- what a scan would find, only where it is made
abbrev pub only_where : Bool → Option ℕ → Option ℕ
only_where true o = o
only_where false o = none

-- no frame's start lies before its release, of arrays by number
abbrev pub NoneEarly : List ℕ → List ℕ → ℕ → Type 0
NoneEarly releases starts frames = (k : ℕ) → k < frames → get_or releases k 0 ≤ get_or starts k 0

-- the start that the table gives to a frame
unfoldable pub start_in : List Row → Pair → ℕ
start_in rows f = (row_holding rows f).start

-- The verdict, and the start that the table gives to each frame, by number.
pub record Judgement : Type 0 where
  pub verdict : Result (Unit {0}) Refusal
  pub starts : List ℕ

-- a verdict with the starts that are left beside it
abbrev pub judgement : Result (Unit {0}) Refusal → List ℕ → Judgement
judgement verdict starts = record { verdict = verdict; starts = starts }

-- A judgement is what the rules say, where rule 25 was looked at or no frame is early; and where the rules pass the table, its starts are those that the table gives to the frames.
pub record Right (early-too : Bool) (releases : List ℕ) (count : ℕ) (says : Res (Unit {0})) (frames : List Pair) (t : TableRead) (j : Judgement) : Type 0 where
  pub verdict : (early-too ≡ true) ⊎ NoneEarly releases j.starts count → judged j.verdict ≡ says
  pub starts : says ≡ ok tt → j.starts ≡ pad_to most_frames 0 (map (start_in t.rows) frames)
