-- What it means that the rules of docs/RULES.md are kept: records of propositions, one field for each rule.
use Rattle.std.specs.Prelude.{◌≡◌, Bool, true, false, length, get_or, take, ℕ, suc, ◌+◌, ◌^◌, ◌≤◌, ◌<◌}
use mathlib.Core.List.{List, [], ◌∷◌, ◌++◌, map, Memᴰ}
use Rattle.std.proofs.Math.Option.{Option, none, some}
use Rattle.std.specs.Int.{◌∣◌}
use Rattle.laws.specs.Res.{ok, refuse}
use Rattle.laws.specs.Faults.{Rule, once, BreaksAt, AllKept, FirstFault}
use Rattle.laws.specs.Lists.{joined}
use Rattle.rules.specs.Records.{Rec, known, body_length, record_of, table_follows}
use Rattle.rules.specs.Plan.{Plan}
use Rattle.rules.specs.Traffic.{read_in}
use Rattle.rules.specs.Frames.{Pair, Layout, layout}
use Rattle.rules.specs.LatestRelease.{Numbered, Placed, no_pair, latest_release}
use Rattle.rules.specs.Table.{PlacedRow, held_in, pairs_in, alone, table_bytes}
use Rattle.rules.specs.Checker.{Named, TableRead, table_of, is_for_consumers, control_at, row_at, stop_before, first_row, last_row, Passed, check_files}
use Rattle.rules.specs.Playing.{module_places, task_places, Input}
use Rattle.rules.specs.Station.{Kept, kept_of, State, state_at_start, run_period, task_age, run_age, Begun}

-- ---- files (rules 6.1 and 7.20)

-- A record of this kind may stand behind one of the kind `previous` (0: at the front).
pub record MayStand (follows : ℕ → ℕ → Bool) (previous kind : ℕ) : Type 0 where
  pub is_known : known kind ≡ true
  pub is_next : follows previous kind ≡ true

-- The bytes behind a record of the kind `previous` are these records, the end record, and nothing more.
pub data AreRecords (follows : ℕ → ℕ → Bool) : ℕ → List ℕ → List Rec → Type 0 where
  the_end : {previous : ℕ} {file : List ℕ} → MayStand follows previous 0 → file ≡ 0 ∷ [] → AreRecords follows previous file []
  one_more :
      {previous kind : ℕ} {file rest : List ℕ} {rs : List Rec} (body : List ℕ) → MayStand follows previous kind → (kind ≡ 0 → ⊥) →
      length body ≡ body_length kind → file ≡ kind ∷ body ++ rest → AreRecords follows kind rest rs →
      AreRecords follows previous file (record_of kind body ∷ rs)

-- The bytes from the offset `at` on, behind a record of the kind `previous`, first break the record rules at the offset p: the file
-- ends where a record should begin, or inside a body (p is the file's length); a kind that may not stand there; something behind
-- the end record.
pub data BreakRecords (follows : ℕ → ℕ → Bool) : ℕ → ℕ → List ℕ → ℕ → Type 0 where
  no_record : {previous at p : ℕ} {file : List ℕ} → file ≡ [] → at ≡ p → BreakRecords follows previous at file p
  wrong_kind :
      {previous at p kind : ℕ} {file rest : List ℕ} → file ≡ kind ∷ rest → (MayStand follows previous kind → ⊥) → at ≡ p →
      BreakRecords follows previous at file p
  behind_end :
      {previous at p b : ℕ} {file rest : List ℕ} → file ≡ 0 ∷ b ∷ rest → MayStand follows previous 0 → suc at ≡ p →
      BreakRecords follows previous at file p
  cut_body :
      {previous at p kind : ℕ} {file body : List ℕ} → file ≡ kind ∷ body → MayStand follows previous kind → (kind ≡ 0 → ⊥) →
      length body < body_length kind → suc at + length body ≡ p → BreakRecords follows previous at file p
  good_record :
      {previous at p kind : ℕ} {file rest : List ℕ} (body : List ℕ) → file ≡ kind ∷ body ++ rest → MayStand follows previous kind →
      (kind ≡ 0 → ⊥) → length body ≡ body_length kind → BreakRecords follows kind (suc at + length body) rest p →
      BreakRecords follows previous at file p

-- ---- tables

-- the pair with this number
unfoldable pub pair_at : Layout → ℕ → Pair
pair_at l f = get_or l.pairs f no_pair

-- A name stands for pair f: it has its task and its deadline.
pub record Names (l : Layout) (n : Named) (f : ℕ) : Type 0 where
  pub there : f < length l.pairs
  pub task : n.task ≡ (pair_at l f).task
  pub deadline : n.deadline ≡ (pair_at l f).deadline

-- the k-th data row holds the pair of this name
abbrev pub Holds : TableRead → ℕ → Named → Type 0
Holds t k n = Memᴰ n (row_at t k).holds

-- names that stand for these pairs, one after the other
pub data NamesAll (l : Layout) : List Named → List Pair → Type 0 where
  no_name : NamesAll l [] []
  one_name : {n : Named} {f : ℕ} {ns : List Named} {fs : List Pair} → Names l n f → NamesAll l ns fs → NamesAll l (n ∷ ns) (pair_at l f ∷ fs)

-- 21: the head's period is P; its counts, and the rows present, are as many as the plan gives.
pub record HeaderIsRight (l : Layout) (t : TableRead) : Type 0 where
  pub period : t.period ≡ l.period
  pub controls : t.controls ≡ length l.control
  pub datas : t.datas ≡ length l.pairs
  pub control_rows : length t.control ≡ length l.control
  pub data_rows : length t.rows ≡ length l.pairs

-- 22: the control row is the one that the plan fixes.
abbrev pub IsFixed : Layout → TableRead → ℕ → Type 0
IsFixed l t k = control_at t.control k ≡ control_at l.control k

-- 23: each name of the data row stands for a pair, and for none that a row before it holds; and its pairs may be in one row.
pub record NamesNew (l : Layout) (t : TableRead) (k : ℕ) : Type 0 where
  pub pairs : List Pair
  pub names : NamesAll l (row_at t k).holds pairs
  pub new :
      (n m : Named) (j : ℕ) → Holds t k n → j < k → Holds t j m → m.task ≡ n.task → m.deadline ≡ n.deadline → ⊥
  pub together : l.together pairs ≡ true

-- 24: stop is start plus the sending time of what the row holds, and start is on the grid.
pub record TimeIsRight (l : Layout) (t : TableRead) (k : ℕ) : Type 0 where
  pub stop : (fs : List Pair) → NamesAll l (row_at t k).holds fs → (row_at t k).stop ≡ (row_at t k).start + l.time fs
  pub grid : l.grid ∣ (row_at t k).start

-- 25: start is not before the release of a pair that the row holds.
abbrev pub IsReleased : Layout → TableRead → ℕ → Type 0
IsReleased l t k = (n : Named) (f : ℕ) → Holds t k n → Names l n f → (pair_at l f).release ≤ (row_at t k).start

-- 26: stop is not after the deadline of a pair that the row holds.
abbrev pub IsInTime : TableRead → ℕ → Type 0
IsInTime t k = (n : Named) → Holds t k n → (row_at t k).stop ≤ n.deadline

-- 27: the data row starts a gap or more behind the stop of the row before it; before the first stands the last control row.
abbrev pub IsSpaced : Layout → TableRead → ℕ → Type 0
IsSpaced l t k = stop_before t k + l.gap ≤ (row_at t k).start

-- 28: the last row stops a gap or more before P.
abbrev pub EndsInTime : Layout → TableRead → Type 0
EndsInTime l t = stop_before t (length t.rows) + l.gap ≤ l.period

-- What a table must keep to pass: 21 to 28.
pub record ObeysTable (l : Layout) (t : TableRead) : Type 0 where
  pub header : HeaderIsRight l t
  pub control : (k : ℕ) → k < length t.control → IsFixed l t k
  pub names : (k : ℕ) → k < length t.rows → NamesNew l t k
  pub time : (k : ℕ) → k < length t.rows → TimeIsRight l t k
  pub released : (k : ℕ) → k < length t.rows → IsReleased l t k
  pub in_time : (k : ℕ) → k < length t.rows → IsInTime t k
  pub spaced : (k : ℕ) → k < length t.rows → IsSpaced l t k
  pub ends : EndsInTime l t

-- The same rules in order, with their numbers and the records of their first places.
abbrev pub rows_ask : ℕ → TableRead → (ℕ → Type 0) → Rule
rows_ask n t asks = record { number = n; first = first_row t; places = length t.rows; asks = asks }

abbrev pub table_rules : Layout → TableRead → List Rule
table_rules l t =
    once 21 0 (HeaderIsRight l t)
    ∷ record { number = 22; first = 1; places = length t.control; asks = IsFixed l t }
    ∷ rows_ask 23 t (NamesNew l t)
    ∷ rows_ask 24 t (TimeIsRight l t)
    ∷ rows_ask 25 t (IsReleased l t)
    ∷ rows_ask 26 t (IsInTime t)
    ∷ rows_ask 27 t (IsSpaced l t)
    ∷ once 28 (last_row t) (EndsInTime l t)
    ∷ []

-- What the checker asks of plan and table: the plan passes 1 to 5 and is laid out by 6 to 11, the table reads as records (20) and
-- keeps 21 to 28.
pub record MayPass (plan table : List ℕ) : Type 0 where
  pub read : Plan
  pub is_read : read_in (is_for_consumers table) plan ≡ ok read
  pub laid : Layout
  pub is_laid : layout read ≡ ok laid
  pub rows : List Rec
  pub are_rows : AreRecords table_follows 0 table rows
  pub obeys : ObeysTable laid (table_of rows)

-- Number n at p is the first fault of plan and table: 1 to 5, 6 to 11, 20, then the first of 21 to 28 at its lowest record.
pub data CheckFault (plan table : List ℕ) (n p : ℕ) : Type 0 where
  of_plan : read_in (is_for_consumers table) plan ≡ refuse n p → CheckFault plan table n p
  of_layout : {q : Plan} → read_in (is_for_consumers table) plan ≡ ok q → layout q ≡ refuse n p → CheckFault plan table n p
  of_records :
      {q : Plan} {l : Layout} → read_in (is_for_consumers table) plan ≡ ok q → layout q ≡ ok l → n ≡ 20 → BreakRecords table_follows 0 0 table p →
      CheckFault plan table n p
  of_table :
      {q : Plan} {l : Layout} {rs : List Rec} → read_in (is_for_consumers table) plan ≡ ok q → layout q ≡ ok l → AreRecords table_follows 0 table rs →
      FirstFault (table_rules l (table_of rs)) n p → CheckFault plan table n p

-- The plan passes 1 to 11, and the table does not read as records, first at p.
pub record UnreadAt (plan table : List ℕ) (p : ℕ) : Type 0 where
  pub read : Plan
  pub is_read : read_in (is_for_consumers table) plan ≡ ok read
  pub laid : Layout
  pub is_laid : layout read ≡ ok laid
  pub unread : BreakRecords table_follows 0 0 table p

-- the rule that asks nothing
abbrev pub no_rule : Rule
no_rule = record { number = 0; first = 0; places = 0; asks = λ k. Unit {0} }

-- The plan passes 1 to 11, the table reads as records and keeps the first i of the rules 21 to 28; the next, 21 + i, is broken, first
-- at record p.
pub record BrokenAt (plan table : List ℕ) (i p : ℕ) : Type 0 where
  pub read : Plan
  pub is_read : read_in (is_for_consumers table) plan ≡ ok read
  pub laid : Layout
  pub is_laid : layout read ≡ ok laid
  pub rows : List Rec
  pub are_rows : AreRecords table_follows 0 table rows
  pub kept : AllKept (take i (table_rules laid (table_of rows)))
  pub broken : BreaksAt (get_or (table_rules laid (table_of rows)) i no_rule) (21 + i) p

-- ---- what is made

-- a numbered pair is the layout's pair of that number
pub record IsPair (l : Layout) (x : Numbered) : Type 0 where
  pub there : x.number < length l.pairs
  pub is : pair_at l x.number ≡ x.pair

-- the row holds the pair
abbrev pub Carries : PlacedRow → Numbered → Type 0
Carries r x = Memᴰ x (held_in r)

-- where a placed row stops
unfoldable pub stop_of : Layout → PlacedRow → ℕ
stop_of l r = r.start + l.time (pairs_in r)

-- What a placed row must keep: its pairs are the layout's and may be in one row; it starts on the grid, not before C nor before the release
-- of one of its pairs, and stops by the deadline of each and by the end.
pub record RowPlacedWell (l : Layout) (r : PlacedRow) : Type 0 where
  pub known : (x : Numbered) → Carries r x → IsPair l x
  pub together : l.together (pairs_in r) ≡ true
  pub on_grid : l.grid ∣ r.start
  pub behind_control : l.floor ≤ r.start
  pub released : (x : Numbered) → Carries r x → x.pair.release ≤ r.start
  pub in_time : (x : Numbered) → Carries r x → stop_of l r ≤ x.pair.deadline
  pub by_end : stop_of l r ≤ l.end

-- each row starts a gap or more behind the stop of the one before it
pub data Spaced (l : Layout) : List PlacedRow → Type 0 where
  no_row : Spaced l []
  one_row : {r : PlacedRow} → Spaced l (r ∷ [])
  next_row : {r s : PlacedRow} {rs : List PlacedRow} → stop_of l r + l.gap ≤ s.start → Spaced l (s ∷ rs) → Spaced l (r ∷ s ∷ rs)

-- the numbers of the pairs that the rows hold
abbrev pub number_of_pair : Numbered → ℕ
number_of_pair x = x.number

unfoldable pub numbers_in : List PlacedRow → List ℕ
numbers_in rows = map number_of_pair (joined (map held_in rows))

-- What a placing must keep so that its table passes, whatever rule gave it: every row is placed well, the rows are spaced, and each pair is
-- in exactly one of them: in some, and together they hold no more than there are.
pub record PlacedWell (l : Layout) (rows : List PlacedRow) : Type 0 where
  pub rows_well : (r : PlacedRow) → Memᴰ r rows → RowPlacedWell l r
  pub spaced : Spaced l rows
  pub some : (f : ℕ) → f < length l.pairs → Memᴰ f (numbers_in rows)
  pub once : length (numbers_in rows) ≡ length l.pairs

-- What `make` needs to give a table of n bytes: the plan passes 1 to 11, the latest-release rule places every frame, and the table fits.
pub record MakesTable (consumers : Bool) (plan : List ℕ) (room n : ℕ) : Type 0 where
  pub read : Plan
  pub is_read : read_in consumers plan ≡ ok read
  pub laid : Layout
  pub is_laid : layout read ≡ ok laid
  pub placed : List Placed
  pub rule : latest_release laid ≡ ok placed
  pub fits : length (table_bytes laid (map alone placed)) ≤ room
  pub long : length (table_bytes laid (map alone placed)) ≡ n

-- Number n at p is the first fault: 1 to 5, 6 to 11, the rule's refusal (12), the room's (13).
pub data MakeFault (consumers : Bool) (plan : List ℕ) (room n p : ℕ) : Type 0 where
  in_plan : read_in consumers plan ≡ refuse n p → MakeFault consumers plan room n p
  in_layout : {q : Plan} → read_in consumers plan ≡ ok q → layout q ≡ refuse n p → MakeFault consumers plan room n p
  in_rule :
      {q : Plan} {l : Layout} → read_in consumers plan ≡ ok q → layout q ≡ ok l → latest_release l ≡ refuse n p → MakeFault consumers plan room n p
  in_room :
      {q : Plan} {l : Layout} {placed : List Placed} → read_in consumers plan ≡ ok q → layout q ≡ ok l → latest_release l ≡ ok placed →
      room < length (table_bytes l (map alone placed)) → n ≡ 13 → p ≡ length (table_bytes l (map alone placed)) → MakeFault consumers plan room n p

-- The plan passes 1 to 11, and the latest-release rule refuses at this frame.
pub record RuleRefuses (consumers : Bool) (plan : List ℕ) (pair : ℕ) : Type 0 where
  pub read : Plan
  pub is_read : read_in consumers plan ≡ ok read
  pub laid : Layout
  pub is_laid : layout read ≡ ok laid
  pub rule : latest_release laid ≡ refuse 12 pair

-- ---- ticks

-- A run of the task is under way.
pub record IsRunning (k : Kept) (s : State) (t : ℕ) : Type 0 where
  pub in_plan : t < k.tasks
  pub invoked : 0 < run_period k s t
  pub released : 0 < task_age k s t

-- A result may be given (rule 8.8): a run is under way, has had none, and is not older than its worst time.
pub record IsAwaited (k : Kept) (s : State) (t : ℕ) : Type 0 where
  pub running : IsRunning k s t
  pub first : s.given t ≡ false
  pub early : run_age k s t ≤ k.task_worst t

-- A change that a module may make: to a mode of its own, a multiple of the switch period after the mode to be left began.
pub record MayChange (k : Kept) (s : State) (m μ : ℕ) : Type 0 where
  pub in_plan : m < k.modules
  pub is_mode : μ < k.modes
  pub own : k.mode_home μ ≡ m
  pub instant : k.mode_switch (s.mode m) ∣ s.age m

-- What a tick must keep to be accepted: 41 each result is awaited; 42 each fits its message; 43 where w ticks of a run are gone, its
-- result was given before or is given now; 44 each change is allowed.
pub record MayTick (k : Kept) (s : State) (i : Input) : Type 0 where
  pub awaited : (t v : ℕ) → t < task_places → i.result t ≡ some v → IsAwaited k s t
  pub fits : (t v : ℕ) → t < task_places → i.result t ≡ some v → v < 256 ^ k.task_size t
  pub in_time :
      (t : ℕ) → t < task_places → IsRunning k s t → run_age k s t ≡ k.task_worst t → s.given t ≡ false →
      (v : ℕ) × (i.result t ≡ some v)
  pub allowed : (m μ : ℕ) → m < module_places → i.change m ≡ some μ → MayChange k s m μ

-- The same rules in order, with their numbers; a place is a task, or a module.
abbrev pub tick_rules : Kept → State → Input → List Rule
tick_rules k s i =
    record { number = 41; first = 0; places = task_places; asks = λ t. (v : ℕ) → i.result t ≡ some v → IsAwaited k s t }
    ∷ record { number = 42; first = 0; places = task_places; asks = λ t. (v : ℕ) → i.result t ≡ some v → v < 256 ^ k.task_size t }
    ∷ record {
      number = 43;
      first = 0;
      places = task_places;
      asks =
          λ t. IsRunning k s t → run_age k s t ≡ k.task_worst t → s.given t ≡ false → (v : ℕ) × (i.result t ≡ some v);
    }
    ∷ record { number = 44; first = 0; places = module_places; asks = λ m. (μ : ℕ) → i.change m ≡ some μ → MayChange k s m μ }
    ∷ []

-- The tick keeps the first j of the rules 41 to 44; the next, 41 + j, is broken, first at the task or module p.
pub record TickBrokenAt (k : Kept) (s : State) (i : Input) (j p : ℕ) : Type 0 where
  pub kept : AllKept (take j (tick_rules k s i))
  pub broken : BreaksAt (get_or (tick_rules k s i) j no_rule) (41 + j) p

-- ---- beginnings

-- What a starting place must hold (rule 8.40): a module's a mode of its own; one behind the modules nothing.
pub record StartsRight (k : Kept) (starting : ℕ → Option ℕ) (m : ℕ) : Type 0 where
  pub own : m < k.modules → (μ : ℕ) × (starting m ≡ some μ) × (μ < k.modes) × (k.mode_home μ ≡ m)
  pub later : k.modules ≤ m → starting m ≡ none

abbrev pub start_rule : Kept → (ℕ → Option ℕ) → Rule
start_rule k starting = record { number = 40; first = 0; places = module_places; asks = StartsRight k starting }

-- What a beginning needs: a table that passes, and each starting place holding what it must.
pub record MayBegin (plan table : List ℕ) (starting : ℕ → Option ℕ) (b : Begun) : Type 0 where
  pub played : Passed
  pub passes : check_files plan table ≡ ok played
  pub starts : (m : ℕ) → m < module_places → StartsRight (kept_of played) starting m
  pub is : b ≡ record { kept = kept_of played; state = state_at_start starting }

-- The table passes, and the lowest starting place that does not hold what it must is m.
pub record BeginBrokenAt (plan table : List ℕ) (starting : ℕ → Option ℕ) (m : ℕ) : Type 0 where
  pub played : Passed
  pub passes : check_files plan table ≡ ok played
  pub broken : BreaksAt (start_rule (kept_of played) starting) 40 m
