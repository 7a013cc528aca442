-- docs/RULES.md, section 10: the jobs marked *, and our own entries for what those let through. Each says what is given and what is left
-- of what was lent; `holds` computes it from the definitions.
use Rattle.std.specs.Prelude.{Bool, true, false, not, ◌&&◌, List, [], ◌∷◌, ◌++◌, map, eqb, length, get_or, set, take, drop, replicate, ℕ, suc, ◌+◌, ◌-◌, ◌/◌, ◌%◌}
use Rattle.laws.specs.Res.{Res, ok, refuse}
use Rattle.laws.specs.Lists.{keep, joined, up_to}
use Rattle.rules.specs.Limits.{most_frames}
use Rattle.rules.specs.Records.{Rec}
use Rattle.rules.specs.Plan.{Plan, nth, bus_of, numbers_are_within, read_plan}
use Rattle.rules.specs.Traffic.{bus_runs, read_in, traffic}
use Rattle.rules.specs.Frames.{Sending, on_bus}
use Rattle.rules.specs.Readers.{readers_of}
use Rattle.rules.specs.Direct.{walk_runs}
use Rattle.rules.specs.Table.{record_bytes, FrameRow, zero_row, Made, make}
use Rattle.rules.specs.Checker.{Passed, check_files, Checked, check}
use Rattle.rules.specs.Station.{kept_of}

-- An entry: how many bits and ticks a payload takes on a bus; in an edition how many messages a plan has, how many pairs the walk over its
-- runs finds, and in how many steps; what 1 to 5 say of a plan; a record that 4 refuses; what is made of a plan in a room, the table and the
-- frame rows, or the refusal, and the same in the consumer edition; a table that passes, with the frame rows, or the refusal; in which modes a
-- station that plays the table sends a message of the pair with this number; how many rows are lent, the refusal, and the rows left.
pub data Entry : Type 0 where
  sends : (bus : Rec) (bytes bits ticks : ℕ) → Entry
  has_messages : (consumers : Bool) (plan : List ℕ) (number : ℕ) → Entry
  walks : (consumers : Bool) (plan : List ℕ) (found steps : ℕ) → Entry
  reads : (plan : List ℕ) (says : Res (Unit {0})) → Entry
  outside : (r : Rec) → Entry
  made : (plan : List ℕ) (room : ℕ) (table : List ℕ) (rows : List FrameRow) → Entry
  not_made : (plan : List ℕ) (room number place : ℕ) → Entry
  made_thin : (plan : List ℕ) (room : ℕ) (table : List ℕ) (rows : List FrameRow) → Entry
  not_made_thin : (plan : List ℕ) (room number place : ℕ) → Entry
  passes : (plan table : List ℕ) (rows : List FrameRow) → Entry
  fails : (plan table : List ℕ) (number place : ℕ) → Entry
  carries : (plan table : List ℕ) (pair : ℕ) (modes : List ℕ) → Entry
  rows_lent : (rows number place : ℕ) (after : List FrameRow) → Entry

-- the same element by element
abbrev pub same_lists : {A : Type 0} → (A → A → Bool) → List A → List A → Bool
same_lists same [] [] = true
same_lists same [] (y ∷ ys) = false
same_lists same (x ∷ xs) [] = false
same_lists same (x ∷ xs) (y ∷ ys) = same x y && same_lists same xs ys

abbrev pub same_frame_row : FrameRow → FrameRow → Bool
same_frame_row a b =
    (eqb a.task b.task && eqb a.release b.release)
    && (eqb a.deadline b.deadline && eqb a.start b.start)

-- the same refusal, or values that are the same
abbrev pub same_answer : {A B : Type 0} → (A → B → Bool) → Res A → Res B → Bool
same_answer same (ok a) (ok b) = same a b
same_answer same (ok a) (refuse m q) = false
same_answer same (refuse n p) (ok b) = false
same_answer same (refuse n p) (refuse m q) = eqb n m && eqb p q

abbrev pub any_value : {A B : Type 0} → A → B → Bool
any_value a b = true

abbrev pub is_refused : {A : Type 0} → Res A → ℕ → ℕ → Bool
is_refused {A} r number place = same_answer {B = A} any_value r (refuse number place)

abbrev pub frame_row : ℕ → ℕ → ℕ → ℕ → FrameRow
frame_row task release deadline start = record { task = task; release = release; deadline = deadline; start = start }

-- what is lent holds other numbers before: so many rows, so many bytes
unfoldable pub lent_rows : ℕ → List FrameRow
lent_rows n = replicate n (frame_row 9 9 9 9)

unfoldable pub lent_bytes : ℕ → List ℕ
lent_bytes n = replicate n 255

unfoldable pub zero_rows : ℕ → List FrameRow
zero_rows n = replicate n zero_row

abbrev pub comes_to : Made → Res ℕ → List FrameRow → List ℕ → Bool
comes_to m answer rows buffer =
    same_answer eqb m.answer answer && (same_lists same_frame_row m.rows rows && same_lists eqb m.buffer buffer)

abbrev pub checks_to : Checked → Res (Unit {0}) → List FrameRow → Bool
checks_to c answer rows = same_answer any_value c.answer answer && same_lists same_frame_row c.rows rows

abbrev pub takes : Sending → ℕ → ℕ → Bool
takes s bits ticks = eqb s.bits bits && eqb s.ticks ticks

abbrev pub counts_messages : Res Plan → ℕ → Bool
counts_messages (ok p) n = eqb (length (traffic p).messages) n
counts_messages (refuse m q) n = false

abbrev pub walks_to : Res Plan → ℕ → ℕ → Bool
walks_to (ok p) found steps =
    let w = walk_runs (readers_of p) (traffic p).period (bus_runs p) in
    eqb (length w.found) found && eqb w.steps steps
walks_to (refuse m q) found steps = false

abbrev pub carries_in : Res Passed → ℕ → List ℕ → Bool
carries_in (ok c) pair modes = same_lists eqb (keep ((kept_of c).pair_has pair) (up_to (kept_of c).modes)) modes
carries_in (refuse m q) pair modes = false

abbrev pub holds : Entry → Bool
holds (sends bus bytes bits ticks) = takes (on_bus (bus_of bus) bytes) bits ticks
holds (has_messages consumers plan number) = counts_messages (read_in consumers plan) number
holds (walks consumers plan found steps) = walks_to (read_in consumers plan) found steps
holds (reads plan says) = same_answer any_value (read_plan plan) says
holds (outside r) = not (numbers_are_within r)
holds (made plan room table rows) =
    comes_to (make false plan (lent_rows most_frames) (lent_bytes room)) (ok (length table)) (rows ++ zero_rows (most_frames - length rows))
    (table ++ lent_bytes (room - length table))
holds (not_made plan room number place) =
    comes_to (make false plan (lent_rows most_frames) (lent_bytes room)) (refuse number place) (zero_rows most_frames) (lent_bytes room)
holds (made_thin plan room table rows) =
    comes_to (make true plan (lent_rows most_frames) (lent_bytes room)) (ok (length table)) (rows ++ zero_rows (most_frames - length rows))
    (table ++ lent_bytes (room - length table))
holds (not_made_thin plan room number place) =
    comes_to (make true plan (lent_rows most_frames) (lent_bytes room)) (refuse number place) (zero_rows most_frames) (lent_bytes room)
holds (passes plan table rows) = checks_to (check plan table (lent_rows most_frames)) (ok tt) (rows ++ zero_rows (most_frames - length rows))
holds (fails plan table number place) = checks_to (check plan table (lent_rows most_frames)) (refuse number place) (zero_rows most_frames)
holds (carries plan table pair modes) = carries_in (check_files plan table) pair modes
holds (rows_lent rows number place after) =
    comes_to (make false [] (lent_rows rows) (lent_bytes 9)) (refuse number place) after (lent_bytes 9)
    && checks_to (check [] [] (lent_rows rows)) (refuse number place) after

-- a record by its kind and its numbers, and a file of records with the end record
abbrev pub rec : ℕ → List ℕ → Rec
rec kind numbers = record { kind = kind; numbers = numbers }

unfoldable pub bytes_of : Rec → List ℕ
bytes_of r = record_bytes r.kind r.numbers

unfoldable pub file : List Rec → List ℕ
file rs = joined (map bytes_of rs) ++ (0 ∷ [])

-- records with another value for the k-th number of record r
unfoldable pub changed : List Rec → ℕ → ℕ → ℕ → List Rec
changed rs r k value =
    let old = get_or rs r (rec 0 []) in
    set rs r (rec old.kind (set old.numbers k value))

-- Job A (rule 10.A).
unfoldable pub records_a : List Rec
records_a =
    rec 1 (1000 ∷ 8 ∷ 0 ∷ 254 ∷ 10 ∷ 1 ∷ [])
    ∷ rec 2 (2 ∷ [])
    ∷ rec 3 (0 ∷ [])
    ∷ rec 3 (1 ∷ [])
    ∷ rec 4 (0 ∷ 60000 ∷ 60000 ∷ [])
    ∷ rec 4 (0 ∷ 60000 ∷ 60000 ∷ [])
    ∷ rec 4 (1 ∷ 60000 ∷ 60000 ∷ [])
    ∷ rec 5 (0 ∷ 4 ∷ 1000 ∷ [])
    ∷ rec 5 (1 ∷ 4 ∷ 1000 ∷ [])
    ∷ rec 6 (0 ∷ 0 ∷ 2 ∷ [])
    ∷ rec 6 (1 ∷ 0 ∷ 3 ∷ [])
    ∷ rec 6 (2 ∷ 1 ∷ 1 ∷ [])
    ∷ rec 7 (0 ∷ 1 ∷ [])
    ∷ []

unfoldable pub plan_a : List ℕ
plan_a = file records_a

unfoldable pub plan_awith : ℕ → ℕ → ℕ → List ℕ
plan_awith r k value = file (changed records_a r k value)

-- with these connections behind its own
unfoldable pub plan_ajoined : List (List ℕ) → List ℕ
plan_ajoined ends = file (records_a ++ map (rec 7) ends)

-- its four frames by their windows, from release to deadline, where the first task needs so long at worst, with these starts
unfoldable pub frames_from : ℕ → ℕ → ℕ → ℕ → ℕ → List FrameRow
frames_from worst first second third fourth =
    frame_row 0 worst 20000 first
    ∷ frame_row 0 worst 30000 second
    ∷ frame_row 0 (20000 + worst) 40000 third
    ∷ frame_row 0 (40000 + worst) 60000 fourth
    ∷ []

unfoldable pub frames_a : ℕ → ℕ → ℕ → ℕ → List FrameRow
frames_a = frames_from 1000

-- its whole table (rule 10.A), of 75 bytes
unfoldable pub table_a : List ℕ
table_a =
    0x10 ∷ 0x60 ∷ 0xEA ∷ 0x00 ∷ 0x00 ∷ 0x01 ∷ 0x04 ∷ 0x00
    ∷ 0x11 ∷ 0x00 ∷ 0x00 ∷ 0x00 ∷ 0x00 ∷ 0x00 ∷ 0x48 ∷ 0x00 ∷ 0x00 ∷ 0x00
    ∷ 0x12 ∷ 0x00 ∷ 0x20 ∷ 0x4E ∷ 0x00 ∷ 0x00 ∷ 0xC0 ∷ 0x4D ∷ 0x00 ∷ 0x00 ∷ 0x20 ∷ 0x4E ∷ 0x00 ∷ 0x00
    ∷ 0x12 ∷ 0x00 ∷ 0x30 ∷ 0x75 ∷ 0x00 ∷ 0x00 ∷ 0xD0 ∷ 0x74 ∷ 0x00 ∷ 0x00 ∷ 0x30 ∷ 0x75 ∷ 0x00 ∷ 0x00
    ∷ 0x12 ∷ 0x00 ∷ 0x40 ∷ 0x9C ∷ 0x00 ∷ 0x00 ∷ 0xE0 ∷ 0x9B ∷ 0x00 ∷ 0x00 ∷ 0x40 ∷ 0x9C ∷ 0x00 ∷ 0x00
    ∷ 0x12 ∷ 0x00 ∷ 0x60 ∷ 0xEA ∷ 0x00 ∷ 0x00 ∷ 0xF6 ∷ 0xE9 ∷ 0x00 ∷ 0x00 ∷ 0x56 ∷ 0xEA ∷ 0x00 ∷ 0x00
    ∷ 0x00 ∷ []

-- its table as records, where the control row and each data row take so long, with these starts
unfoldable pub rows_of : ℕ → ℕ → ℕ → ℕ → ℕ → ℕ → List Rec
rows_of control time first second third fourth =
    rec 16 (60000 ∷ 1 ∷ 4 ∷ [])
    ∷ rec 17 (0 ∷ 0 ∷ control ∷ [])
    ∷ rec 18 (0 ∷ 20000 ∷ first ∷ (first + time) ∷ [])
    ∷ rec 18 (0 ∷ 30000 ∷ second ∷ (second + time) ∷ [])
    ∷ rec 18 (0 ∷ 40000 ∷ third ∷ (third + time) ∷ [])
    ∷ rec 18 (0 ∷ 60000 ∷ fourth ∷ (fourth + time) ∷ [])
    ∷ []

-- job A's, and with one record put in another's place
unfoldable pub rows_a : List Rec
rows_a = rows_of 72 96 19904 29904 39904 59894

unfoldable pub table_awith : ℕ → Rec → List ℕ
table_awith k r = file (set rows_a k r)

-- Job B: the same frames where the first task needs 19,894 ticks at worst.
unfoldable pub frames_b : List FrameRow
frames_b = frames_from 19894 19904 29904 39904 59894

-- Job A with a bus of kind 9 whose bytes take so many bits, and its table with ten (rule 16.4).
unfoldable pub bus_of_a : ℕ → Rec
bus_of_a bits = rec 9 (1000 ∷ 8 ∷ 0 ∷ 254 ∷ 10 ∷ 1 ∷ bits ∷ [])

unfoldable pub records_aof : ℕ → List Rec
records_aof bits = set records_a 0 (bus_of_a bits)

unfoldable pub plan_ten : List ℕ
plan_ten = file (records_aof 10)

unfoldable pub table_ten : List ℕ
table_ten = file (rows_of 90 120 19880 29880 39880 59870)

-- Job J: X, Y, Z and what consumes them (reading 36), and the table that passes though the rule refuses.
unfoldable pub records_j : List Rec
records_j =
    rec 1 (8000 ∷ 0 ∷ 0 ∷ 254 ∷ 0 ∷ 1 ∷ [])
    ∷ rec 2 (4 ∷ [])
    ∷ rec 3 (0 ∷ [])
    ∷ rec 3 (1 ∷ [])
    ∷ rec 3 (2 ∷ [])
    ∷ rec 3 (3 ∷ [])
    ∷ rec 4 (0 ∷ 20 ∷ 20 ∷ [])
    ∷ rec 4 (1 ∷ 20 ∷ 20 ∷ [])
    ∷ rec 4 (2 ∷ 20 ∷ 20 ∷ [])
    ∷ rec 4 (3 ∷ 20 ∷ 20 ∷ [])
    ∷ rec 5 (0 ∷ 5 ∷ 1 ∷ [])
    ∷ rec 5 (1 ∷ 2 ∷ 8 ∷ [])
    ∷ rec 5 (2 ∷ 4 ∷ 11 ∷ [])
    ∷ rec 5 (3 ∷ 1 ∷ 1 ∷ [])
    ∷ rec 6 (0 ∷ 0 ∷ 1 ∷ [])
    ∷ rec 6 (1 ∷ 1 ∷ 2 ∷ [])
    ∷ rec 6 (2 ∷ 2 ∷ 1 ∷ [])
    ∷ rec 6 (3 ∷ 3 ∷ 1 ∷ [])
    ∷ rec 7 (0 ∷ 3 ∷ [])
    ∷ rec 7 (1 ∷ 3 ∷ [])
    ∷ rec 7 (2 ∷ 3 ∷ [])
    ∷ []

unfoldable pub table_j : List ℕ
table_j =
    file
    (rec 16 (20 ∷ 3 ∷ 4 ∷ [])
    ∷ rec 17 (0 ∷ 0 ∷ 1 ∷ [])
    ∷ rec 17 (1 ∷ 1 ∷ 2 ∷ [])
    ∷ rec 17 (2 ∷ 2 ∷ 3 ∷ [])
    ∷ rec 18 (0 ∷ 20 ∷ 3 ∷ 8 ∷ [])
    ∷ rec 18 (1 ∷ 10 ∷ 8 ∷ 10 ∷ [])
    ∷ rec 18 (2 ∷ 20 ∷ 11 ∷ 15 ∷ [])
    ∷ rec 18 (1 ∷ 20 ∷ 18 ∷ 20 ∷ [])
    ∷ [])

unfoldable pub frames_j : List FrameRow
frames_j = frame_row 1 8 10 8 ∷ frame_row 0 1 20 3 ∷ frame_row 1 18 20 18 ∷ frame_row 2 11 20 11 ∷ []

-- A small line of ours: one tick for a byte; gap bits and resolution left open; node 0 has two sending modules, with task 0 (one
-- byte, once in a cycle of 60) and task 1 (`size` bytes, `rate` times); node 1 consumes.
unfoldable pub records_s : ℕ → ℕ → ℕ → ℕ → List Rec
records_s gap resolution size rate =
    rec 1 (8000 ∷ 0 ∷ 0 ∷ 254 ∷ gap ∷ resolution ∷ [])
    ∷ rec 2 (2 ∷ [])
    ∷ rec 3 (0 ∷ [])
    ∷ rec 3 (0 ∷ [])
    ∷ rec 3 (1 ∷ [])
    ∷ rec 4 (0 ∷ 60 ∷ 60 ∷ [])
    ∷ rec 4 (1 ∷ 60 ∷ 60 ∷ [])
    ∷ rec 4 (2 ∷ 60 ∷ 60 ∷ [])
    ∷ rec 5 (0 ∷ 1 ∷ 1 ∷ [])
    ∷ rec 5 (1 ∷ size ∷ 1 ∷ [])
    ∷ rec 5 (2 ∷ 1 ∷ 1 ∷ [])
    ∷ rec 6 (0 ∷ 0 ∷ 1 ∷ [])
    ∷ rec 6 (1 ∷ 1 ∷ rate ∷ [])
    ∷ rec 6 (2 ∷ 2 ∷ 1 ∷ [])
    ∷ rec 7 (0 ∷ 2 ∷ [])
    ∷ rec 7 (1 ∷ 2 ∷ [])
    ∷ []

-- One run in each tick of a cycle of n, and one run in the whole cycle on another node: n + 1 frames.
unfoldable pub records_many : ℕ → List Rec
records_many n =
    rec 1 (8000 ∷ 0 ∷ 0 ∷ 254 ∷ 0 ∷ 1 ∷ [])
    ∷ rec 2 (2 ∷ [])
    ∷ rec 3 (0 ∷ [])
    ∷ rec 3 (1 ∷ [])
    ∷ rec 4 (0 ∷ n ∷ n ∷ [])
    ∷ rec 4 (1 ∷ n ∷ n ∷ [])
    ∷ rec 5 (0 ∷ 1 ∷ 1 ∷ [])
    ∷ rec 5 (1 ∷ 1 ∷ 1 ∷ [])
    ∷ rec 6 (0 ∷ 0 ∷ n ∷ [])
    ∷ rec 6 (1 ∷ 1 ∷ 1 ∷ [])
    ∷ rec 7 (0 ∷ 1 ∷ [])
    ∷ rec 7 (1 ∷ 0 ∷ [])
    ∷ []

-- Two nodes, and one tick for a byte: task 0 (node 0, `size` bytes) is read by task 1 (node 1). Of each task the modes, by period and rate.
unfoldable pub modes_in : ℕ → List (List ℕ) → List Rec
modes_in m modes = map (λ μ. rec 4 (m ∷ nth μ 0 ∷ nth μ 0 ∷ [])) modes

unfoldable pub invoked_from : ℕ → ℕ → List (List ℕ) → List Rec
invoked_from k t [] = []
invoked_from k t (μ ∷ modes) = rec 6 (k ∷ t ∷ nth μ 1 ∷ []) ∷ invoked_from (suc k) t modes

unfoldable pub plan_of_two : ℕ → List (List ℕ) → List (List ℕ) → List ℕ
plan_of_two size sent read =
    file
    ((rec 1 (8000 ∷ 0 ∷ 0 ∷ 254 ∷ 0 ∷ 1 ∷ []) ∷ rec 2 (2 ∷ []) ∷ rec 3 (0 ∷ []) ∷ rec 3 (1 ∷ []) ∷ [])
    ++ (modes_in 0 sent ++ (modes_in 1 read
    ++ ((rec 5 (0 ∷ size ∷ 1 ∷ []) ∷ rec 5 (1 ∷ 1 ∷ 1 ∷ []) ∷ [])
    ++ (invoked_from 0 0 sent ++ (invoked_from (length sent) 1 read ++ (rec 7 (0 ∷ 1 ∷ []) ∷ [])))))))

-- a table with a control row and rows of task 0, where these take so long, by head, P, and of each row deadline and start
unfoldable pub table_of_two : ℕ → ℕ → ℕ → ℕ → List (List ℕ) → List ℕ
table_of_two head period control time rows =
    file
    (rec head (period ∷ 1 ∷ length rows ∷ [])
    ∷ rec 17 (0 ∷ 0 ∷ control ∷ [])
    ∷ map (λ r. rec 18 (0 ∷ nth r 0 ∷ nth r 1 ∷ (nth r 1 + time) ∷ [])) rows)

-- different connections by number, from the first eight tasks to the next eight
unfoldable pub joins : ℕ → Rec
joins k = rec 7 ((k / 8) ∷ (8 + k % 8) ∷ [])

-- So many nodes, modules, modes, tasks, invocations and connections, each but the last of the first thing that it can be of.
unfoldable pub records_counted : List ℕ → List Rec
records_counted counts =
    rec 1 (8000 ∷ 0 ∷ 0 ∷ 254 ∷ 0 ∷ 1 ∷ [])
    ∷ rec 2 (get_or counts 0 0 ∷ [])
    ∷ replicate (get_or counts 1 0) (rec 3 (0 ∷ []))
    ++ (replicate (get_or counts 2 0) (rec 4 (0 ∷ 60 ∷ 60 ∷ []))
    ++ (replicate (get_or counts 3 0) (rec 5 (0 ∷ 1 ∷ 1 ∷ []))
    ++ (replicate (get_or counts 4 0) (rec 6 (0 ∷ 0 ∷ 1 ∷ [])) ++ map joins (up_to (get_or counts 5 0)))))

-- enough room for each table below
unfoldable pub plenty : ℕ
plenty = 120

-- The jobs marked *.
unfoldable pub document_jobs : List Entry
document_jobs =
    has_messages false plan_a 5  -- A
    ∷ made plan_a 75 table_a (frames_a 19904 29904 39904 59894)
    ∷ made (plan_awith 7 2 19894) 75 table_a frames_b  -- B
    ∷ not_made (plan_awith 7 2 19895) 75 12 3
    ∷ not_made plan_a 74 13 75  -- C
    ∷ not_made [] plenty 1 0  -- D
    ∷ not_made (plan_awith 0 5 7) plenty 8 0  -- E
    ∷ passes plan_a (table_awith 2 (rec 18 (0 ∷ 20000 ∷ 1000 ∷ 1096 ∷ []))) (frames_a 1000 29904 39904 59894)  -- G
    ∷ fails plan_a (table_awith 2 (rec 18 (0 ∷ 20000 ∷ 999 ∷ 1095 ∷ []))) 25 2
    ∷ passes plan_a (table_awith 3 (rec 18 (0 ∷ 30000 ∷ 20010 ∷ 20106 ∷ []))) (frames_a 19904 20010 39904 59894)  -- H
    ∷ fails plan_a (table_awith 3 (rec 18 (0 ∷ 30000 ∷ 20005 ∷ 20101 ∷ []))) 27 3
    ∷ fails plan_a (table_awith 4 (rec 18 (0 ∷ 40000 ∷ 39905 ∷ 40001 ∷ []))) 26 4  -- I
    ∷ not_made (file records_j) plenty 12 0  -- J
    ∷ passes (file records_j) table_j frames_j
    ∷ []

-- Both sides of each limit of section 3: what 1 to 5 say of a plan with one thing of each kind, sixteen tasks and no connection, but for
-- one kind (rule 3.1), and of job A's plan with one number changed: record, place in it, value (rules 3.2 and 3.3).
abbrev pub fine : Res (Unit {0})
fine = ok tt

abbrev pub with_count : ℕ → ℕ → Res (Unit {0}) → Entry
with_count kind n says = reads (file (records_counted (set (1 ∷ 1 ∷ 1 ∷ 16 ∷ 1 ∷ 0 ∷ []) (kind - 2) n))) says

abbrev pub with_value : ℕ → ℕ → ℕ → Res (Unit {0}) → Entry
with_value r k value says = reads (plan_awith r k value) says

unfoldable pub limits : List Entry
limits =
    with_count 2 0 (refuse 2 2) ∷ with_count 2 1 fine ∷ with_count 2 8 fine ∷ with_count 2 9 (refuse 2 2)  -- nodes
    ∷ with_count 3 0 (refuse 2 3) ∷ with_count 3 16 (refuse 5 3) ∷ with_count 3 17 (refuse 2 3)  -- modules; all but the first have no mode
    ∷ with_count 4 0 (refuse 2 4) ∷ with_count 4 32 fine ∷ with_count 4 33 (refuse 2 4)  -- modes
    ∷ with_count 5 0 (refuse 2 5) ∷ with_count 5 1 fine ∷ with_count 5 32 fine ∷ with_count 5 33 (refuse 2 5)  -- tasks
    ∷ with_count 6 0 (refuse 2 6) ∷ with_count 6 64 (refuse 5 21) ∷ with_count 6 65 (refuse 2 6)  -- invocations; the second repeats the first
    ∷ with_count 7 64 fine ∷ with_count 7 65 (refuse 2 7)  -- connections
    ∷ with_value 0 0 0 (refuse 4 0) ∷ with_value 0 0 1 fine ∷ with_value 0 0 100000 fine ∷ with_value 0 0 100001 (refuse 4 0)  -- kbit/s
    ∷ with_value 0 1 0 fine ∷ with_value 0 1 64 fine ∷ with_value 0 1 65 (refuse 4 0)  -- overhead
    ∷ with_value 0 2 254 fine ∷ with_value 0 2 255 (refuse 4 0)  -- least payload; job A has 0
    ∷ with_value 0 3 0 (refuse 4 0) ∷ with_value 0 3 1 fine ∷ with_value 0 3 255 (refuse 4 0)  -- largest payload; job A has 254
    ∷ with_value 0 4 0 fine ∷ with_value 0 4 1000 fine ∷ with_value 0 4 1001 (refuse 4 0)  -- gap
    ∷ with_value 0 5 0 (refuse 4 0) ∷ with_value 0 5 1000 fine ∷ with_value 0 5 1001 (refuse 4 0)  -- resolution; job A has 1
    ∷ with_value 4 1 0 (refuse 4 4) ∷ with_value 4 1 1 (refuse 5 4) ∷ with_value 4 1 1000000 (refuse 5 4) ∷ with_value 4 1 1000001 (refuse 4 4)  -- mode period
    ∷ with_value 4 2 0 (refuse 4 4) ∷ with_value 4 2 1 (refuse 5 9) ∷ with_value 4 2 1000000 (refuse 5 4) ∷ with_value 4 2 1000001 (refuse 4 4)  -- switch period
    ∷ with_value 7 1 0 (refuse 4 7) ∷ with_value 7 1 1 fine ∷ with_value 7 1 8 fine ∷ with_value 7 1 9 (refuse 4 7)  -- size
    ∷ with_value 7 2 0 (refuse 4 7) ∷ with_value 7 2 1 fine ∷ with_value 7 2 1000000 (refuse 5 9) ∷ with_value 7 2 1000001 (refuse 4 7)  -- worst time
    ∷ with_value 9 2 0 (refuse 4 9) ∷ with_value 9 2 1 fine ∷ with_value 9 2 65535 (refuse 5 9) ∷ outside (rec 6 (0 ∷ 0 ∷ 65536 ∷ []))  -- rate; two bytes hold no more
    ∷ []

-- The tables that the rule gives for our own plans.

-- C binds: the first frame starts at C itself; gap 0.
unfoldable pub table_at_c : List ℕ
table_at_c =
    file
    (rec 16 (60 ∷ 1 ∷ 7 ∷ [])
    ∷ rec 17 (0 ∷ 0 ∷ 2 ∷ [])
    ∷ rec 18 (1 ∷ 10 ∷ 2 ∷ 10 ∷ [])
    ∷ rec 18 (1 ∷ 20 ∷ 12 ∷ 20 ∷ [])
    ∷ rec 18 (1 ∷ 30 ∷ 22 ∷ 30 ∷ [])
    ∷ rec 18 (1 ∷ 40 ∷ 32 ∷ 40 ∷ [])
    ∷ rec 18 (1 ∷ 50 ∷ 42 ∷ 50 ∷ [])
    ∷ rec 18 (0 ∷ 60 ∷ 51 ∷ 52 ∷ [])
    ∷ rec 18 (1 ∷ 60 ∷ 52 ∷ 60 ∷ [])
    ∷ [])

-- the resolution is 4, and 15, 30, 45 are off it
unfoldable pub table_coarse : List ℕ
table_coarse =
    file
    (rec 16 (60 ∷ 1 ∷ 5 ∷ [])
    ∷ rec 17 (0 ∷ 0 ∷ 4 ∷ [])
    ∷ rec 18 (1 ∷ 15 ∷ 8 ∷ 12 ∷ [])
    ∷ rec 18 (1 ∷ 30 ∷ 24 ∷ 28 ∷ [])
    ∷ rec 18 (1 ∷ 45 ∷ 40 ∷ 44 ∷ [])
    ∷ rec 18 (0 ∷ 60 ∷ 52 ∷ 56 ∷ [])
    ∷ rec 18 (1 ∷ 60 ∷ 56 ∷ 60 ∷ [])
    ∷ [])

-- a gap of one tick between neighbours, and behind the last; the later release is placed last
unfoldable pub table_gap : List ℕ
table_gap =
    file
    (rec 16 (60 ∷ 1 ∷ 5 ∷ [])
    ∷ rec 17 (0 ∷ 0 ∷ 2 ∷ [])
    ∷ rec 18 (1 ∷ 15 ∷ 13 ∷ 15 ∷ [])
    ∷ rec 18 (1 ∷ 30 ∷ 28 ∷ 30 ∷ [])
    ∷ rec 18 (1 ∷ 45 ∷ 43 ∷ 45 ∷ [])
    ∷ rec 18 (0 ∷ 60 ∷ 55 ∷ 56 ∷ [])
    ∷ rec 18 (1 ∷ 60 ∷ 57 ∷ 59 ∷ [])
    ∷ [])

-- among equal releases the larger number is placed last
unfoldable pub table_equal : List ℕ
table_equal =
    file
    (rec 16 (60 ∷ 1 ∷ 2 ∷ [])
    ∷ rec 17 (0 ∷ 0 ∷ 2 ∷ [])
    ∷ rec 18 (0 ∷ 60 ∷ 57 ∷ 58 ∷ [])
    ∷ rec 18 (1 ∷ 60 ∷ 58 ∷ 60 ∷ [])
    ∷ [])

-- job A at 7,000 kbit/s: every time is rounded up to a tick, and ten bits of gap are two
unfoldable pub table_rounded : List ℕ
table_rounded = file (rows_of 11 14 19986 29986 39986 59984)

-- job A with a least payload of 10 bytes
unfoldable pub table_least : List ℕ
table_least = file (rows_of 144 144 19856 29856 39856 59846)

-- job A with every row as early as its release and the row before it allow: a passing table whose rows stop long before their deadlines
unfoldable pub table_early : List ℕ
table_early = file (rows_of 72 96 1000 1106 21000 41000)

-- two rows at fault: record 2 stops late, record 5 starts before its release
unfoldable pub table_two_faults : List ℕ
table_two_faults = file (rows_of 72 96 19905 29904 39904 40999)

-- a first row that begins inside the gap behind the control row, and a last row that stops at P
unfoldable pub table_in_gap : List ℕ
table_in_gap =
    file
    (rec 16 (60 ∷ 1 ∷ 5 ∷ [])
    ∷ rec 17 (0 ∷ 0 ∷ 2 ∷ [])
    ∷ rec 18 (1 ∷ 15 ∷ 2 ∷ 4 ∷ [])
    ∷ rec 18 (1 ∷ 30 ∷ 28 ∷ 30 ∷ [])
    ∷ rec 18 (1 ∷ 45 ∷ 43 ∷ 45 ∷ [])
    ∷ rec 18 (0 ∷ 60 ∷ 56 ∷ 57 ∷ [])
    ∷ rec 18 (1 ∷ 60 ∷ 58 ∷ 60 ∷ [])
    ∷ [])

-- a row off the resolution
unfoldable pub table_off : List ℕ
table_off =
    file
    (rec 16 (60 ∷ 1 ∷ 5 ∷ [])
    ∷ rec 17 (0 ∷ 0 ∷ 4 ∷ [])
    ∷ rec 18 (1 ∷ 15 ∷ 9 ∷ 13 ∷ [])
    ∷ rec 18 (1 ∷ 30 ∷ 24 ∷ 28 ∷ [])
    ∷ rec 18 (1 ∷ 45 ∷ 40 ∷ 44 ∷ [])
    ∷ rec 18 (0 ∷ 60 ∷ 52 ∷ 56 ∷ [])
    ∷ rec 18 (1 ∷ 60 ∷ 56 ∷ 60 ∷ [])
    ∷ [])

-- the frames of the small line where task 1 runs four times, with these starts
unfoldable pub frames_of_four : ℕ → ℕ → ℕ → ℕ → ℕ → List FrameRow
frames_of_four first second third fourth fifth =
    frame_row 1 1 15 first ∷ frame_row 1 16 30 second ∷ frame_row 1 31 45 third ∷ frame_row 0 1 60 fourth ∷ frame_row 1 46 60 fifth ∷ []

unfoldable pub frames_at_c : List FrameRow
frames_at_c =
    frame_row 1 1 10 2
    ∷ frame_row 1 11 20 12
    ∷ frame_row 1 21 30 22
    ∷ frame_row 1 31 40 32
    ∷ frame_row 1 41 50 42
    ∷ frame_row 0 1 60 51
    ∷ frame_row 1 51 60 52
    ∷ []

-- Our own entries.
unfoldable pub own_entries : List Entry
own_entries =
    made (file (records_s 0 1 8 6)) plenty table_at_c frames_at_c  -- C binds
    ∷ not_made (file (records_s 8 1 8 6)) plenty 12 0
    ∷ made (file (records_s 0 4 2 4)) plenty table_coarse (frames_of_four 8 24 40 52 56)
    ∷ made (file (records_s 8 1 2 4)) plenty table_gap (frames_of_four 13 28 43 55 57)
    ∷ made (file (records_s 0 1 2 1)) plenty table_equal (frame_row 0 1 60 57 ∷ frame_row 1 1 60 58 ∷ [])
    ∷ made (plan_awith 0 0 7000) plenty table_rounded (frames_a 19986 29986 39986 59984)
    ∷ made (plan_awith 0 2 10) plenty table_least (frames_a 19856 29856 39856 59846)
    ∷ not_made (plan_a ++ (0 ∷ [])) plenty 1 86  -- 1: behind the end record
    ∷ not_made (take 40 plan_a) plenty 1 40  -- 1: the file ends inside a body
    ∷ not_made (take 85 plan_a) plenty 1 85  -- 1: no end record
    ∷ not_made (8 ∷ []) plenty 1 0  -- 1: an unknown kind
    ∷ not_made (take 17 plan_a ++ (3 ∷ [])) plenty 1 17  -- 1: a wrong kind goes before a cut body
    ∷ not_made (take 17 plan_a ++ (0 ∷ [])) plenty 1 17  -- 1: 0 straight after the bus
    ∷ not_made (take 19 plan_a ++ (0 ∷ [])) plenty 2 3  -- 2: bus, nodes, end is well formed and has no module
    ∷ not_made (plan_awith 3 0 2) plenty 3 3  -- 3
    ∷ not_made (plan_awith 12 1 2) plenty 3 12
    ∷ not_made (file (changed (changed records_a 0 0 0) 12 1 2)) plenty 3 12  -- 3 goes before 4
    ∷ not_made (file (changed (changed records_a 0 2 100) 0 3 50)) plenty 4 0  -- 4: largest payload below the least
    ∷ not_made (plan_awith 6 0 0) plenty 5 3  -- 5: a module without a mode
    ∷ not_made (plan_awith 4 2 7) plenty 5 4  -- 5: switch period
    ∷ not_made (file (records_s 0 1 1 40)) plenty 5 12  -- 5: rate, though 60 / 40, rounded down, would fit
    ∷ not_made (plan_awith 4 2 20000) plenty 5 9  -- 5: invocation period and switch period
    ∷ not_made (plan_awith 7 2 30001) plenty 5 9  -- 5: worst time
    ∷ not_made (plan_awith 11 1 0) plenty 5 11  -- 5: task and mode of different modules
    ∷ not_made (plan_awith 10 0 0) plenty 5 10  -- 5: a task twice in one mode, the later
    ∷ not_made (plan_awith 12 1 0) plenty 5 12  -- 5: a connection from a task to itself
    ∷ not_made (plan_ajoined ((0 ∷ 1 ∷ []) ∷ [])) plenty 5 13  -- 5: a connection twice, the later
    ∷ not_made (plan_ajoined ((1 ∷ 0 ∷ []) ∷ (0 ∷ 1 ∷ []) ∷ [])) plenty 5 14  -- another one stands between them
    ∷ not_made (plan_ajoined ((1 ∷ 1 ∷ []) ∷ (1 ∷ 1 ∷ []) ∷ [])) plenty 5 13  -- a task to itself twice: the first
    ∷ reads (plan_ajoined ((1 ∷ 0 ∷ []) ∷ [])) fine  -- there and back
    ∷ not_made (file (changed (changed records_a 10 0 0) 12 1 0)) plenty 5 10  -- the lower record
    ∷ not_made (plan_ajoined ((0 ∷ 1 ∷ []) ∷ (0 ∷ 2 ∷ []) ∷ [])) plenty 3 14  -- 3 goes before 5
    ∷ not_made (plan_awith 3 0 0) plenty 6 0  -- 6
    ∷ not_made (plan_awith 5 2 20000) plenty 7 0  -- 7
    ∷ walks false plan_a 4 5  -- a step for each message
    ∷ walks false (file records_j) 4 4  -- three tasks at one deadline
    ∷ not_made (plan_awith 0 3 3) plenty 10 0  -- 10: a message
    ∷ not_made (file (changed (records_s 0 1 1 4) 0 3 1)) plenty 10 0  -- 10: a control payload, of two sending modules
    ∷ not_made (file (changed (records_many 5) 0 1 5)) plenty 11 0  -- 11
    ∷ rows_lent 1023 19 1024 (lent_rows 1023)  -- 19
    ∷ rows_lent 1025 1 0 (zero_rows 1025)
    ∷ passes plan_a table_early (frames_a 1000 1106 21000 41000)  -- rows that stop long before their deadlines
    ∷ passes (file (records_s 0 4 2 4)) table_coarse (frames_of_four 8 24 40 52 56)
    ∷ fails plan_a [] 20 0  -- 20
    ∷ fails plan_a (take 74 table_a) 20 74
    ∷ fails plan_a (table_a ++ (0 ∷ [])) 20 75
    ∷ fails plan_a (file (rec 16 (60000 ∷ 1 ∷ 4 ∷ []) ∷ rec 18 (0 ∷ 20000 ∷ 19904 ∷ 20000 ∷ []) ∷ rec 17 (0 ∷ 0 ∷ 72 ∷ []) ∷ [])) 20 22  -- 20: descending
    ∷ fails plan_a (table_awith 0 (rec 16 (59999 ∷ 1 ∷ 4 ∷ []))) 21 0  -- 21
    ∷ fails plan_a (table_awith 0 (rec 16 (60000 ∷ 2 ∷ 4 ∷ []))) 21 0
    ∷ fails plan_a (table_awith 0 (rec 16 (60000 ∷ 1 ∷ 5 ∷ []))) 21 0
    ∷ fails plan_a (file (rec 16 (60000 ∷ 1 ∷ 4 ∷ []) ∷ [])) 21 0  -- 21: a table without rows is well formed
    ∷ fails plan_a (table_awith 1 (rec 17 (0 ∷ 0 ∷ 73 ∷ []))) 22 1  -- 22
    ∷ fails plan_a (table_awith 2 (rec 18 (0 ∷ 20001 ∷ 19904 ∷ 20000 ∷ []))) 23 2  -- 23: no pair
    ∷ fails plan_a (table_awith 3 (rec 18 (0 ∷ 20000 ∷ 29904 ∷ 30000 ∷ []))) 23 3  -- 23: one already named, the later row
    ∷ fails plan_a (table_awith 2 (rec 18 (0 ∷ 20000 ∷ 19904 ∷ 19999 ∷ []))) 24 2  -- 24: sending time
    ∷ fails (file (records_s 0 4 2 4)) table_off 24 2  -- 24: resolution
    ∷ fails plan_a (table_awith 5 (rec 18 (0 ∷ 60000 ∷ 40999 ∷ 41095 ∷ []))) 25 5  -- 25: a pair shared by two modes has the greater release
    ∷ passes plan_a (table_awith 5 (rec 18 (0 ∷ 60000 ∷ 41000 ∷ 41096 ∷ []))) (frames_a 19904 29904 39904 41000)
    ∷ fails (file (changed (changed records_a 9 2 3) 10 2 2)) (table_awith 5 (rec 18 (0 ∷ 60000 ∷ 40999 ∷ 41095 ∷ []))) 25 5  -- the modes the other way round
    ∷ fails plan_a table_two_faults 25 5  -- a lower number goes before a lower record
    ∷ fails (file (records_s 8 1 2 4)) table_in_gap 27 2  -- 27: the last control row counts; 27 goes before 28
    ∷ passes plan_a table_a (frames_a 19904 29904 39904 59894)  -- the last stop and the gap come to P
    ∷ fails plan_a (table_awith 5 (rec 18 (0 ∷ 60000 ∷ 59895 ∷ 59991 ∷ []))) 28 5  -- 28: a tick more
    ∷ fails plan_a (table_awith 5 (rec 18 (0 ∷ 60000 ∷ 59904 ∷ 60000 ∷ []))) 28 5  -- 28: the row stops at P
    ∷ fails (file records_j) table_a 21 0
    ∷ []

-- Bytes of more than eight bits: the two kinds of bus, the bits of a byte, and where a bus may stand.
unfoldable pub byte_entries : List Entry
byte_entries =
    made plan_ten 75 table_ten (frames_a 19880 29880 39880 59870)  -- A with ten bits
    ∷ made (file (changed (records_aof 10) 7 2 19870)) 75 table_ten (frames_from 19870 19880 29880 39880 59870)  -- B with ten bits
    ∷ not_made (file (changed (records_aof 10) 7 2 19871)) 75 12 3
    ∷ sends (bus_of_a 10) 1 90 90 ∷ sends (bus_of_a 10) 4 120 120  -- A's control row, A's data rows
    ∷ passes plan_ten table_ten (frames_a 19880 29880 39880 59870)
    ∷ fails plan_ten table_a 22 1  -- the table of eight bits
    ∷ sends (rec 1 (1000 ∷ 8 ∷ 0 ∷ 254 ∷ 10 ∷ 1 ∷ [])) 4 96 96  -- kind 1 means eight
    ∷ sends (rec 9 (3000 ∷ 8 ∷ 0 ∷ 254 ∷ 10 ∷ 1 ∷ 10 ∷ [])) 4 120 40  -- all bits are rounded together, not byte by byte
    ∷ sends (rec 9 (7000 ∷ 8 ∷ 10 ∷ 254 ∷ 10 ∷ 4 ∷ 12 ∷ [])) 4 216 32  -- the ticks are rounded, the bits are not
    ∷ reads (file (records_aof 7)) (refuse 4 0) ∷ reads (file (records_aof 8)) fine  -- bits of a byte
    ∷ reads (file (records_aof 12)) fine ∷ reads (file (records_aof 13)) (refuse 4 0)
    ∷ reads (file (changed (records_aof 10) 0 3 255)) (refuse 4 0)  -- kind 9 has kind 1's ranges
    ∷ reads (file (changed (changed (records_aof 10) 0 2 100) 0 3 50)) (refuse 4 0)  -- and the order of its payloads
    ∷ reads (file (changed (records_aof 13) 12 1 2)) (refuse 3 12)  -- 3 goes before 4
    ∷ reads (take 17 plan_ten) (refuse 1 17)  -- the bits are missing
    ∷ reads (take 18 plan_ten ++ (1 ∷ [])) (refuse 1 18)  -- behind a bus no other, only the nodes
    ∷ reads (take 18 plan_ten ++ (9 ∷ [])) (refuse 1 18)
    ∷ reads (take 18 plan_ten ++ (0 ∷ [])) (refuse 1 18)
    ∷ reads (take 17 plan_a ++ (9 ∷ [])) (refuse 1 17)
    ∷ reads (take 19 plan_a ++ (9 ∷ [])) (refuse 1 19)  -- not behind the nodes, nor behind things
    ∷ reads (take 85 plan_a ++ (9 ∷ [])) (refuse 1 85)
    ∷ reads (10 ∷ []) (refuse 1 0)  -- an unknown kind
    ∷ fails plan_ten (9 ∷ []) 20 0  -- no kind of a table
    ∷ []

-- The consumer edition (section 21).

-- Figure 5: job A, whose second task runs twice in its mode; its table, of 61 bytes.
unfoldable pub plan_five : List ℕ
plan_five = plan_awith 11 2 2

unfoldable pub table_five : List ℕ
table_five =
    0x14 ∷ 0x60 ∷ 0xEA ∷ 0x00 ∷ 0x00 ∷ 0x01 ∷ 0x03 ∷ 0x00
    ∷ 0x11 ∷ 0x00 ∷ 0x00 ∷ 0x00 ∷ 0x00 ∷ 0x00 ∷ 0x48 ∷ 0x00 ∷ 0x00 ∷ 0x00
    ∷ 0x12 ∷ 0x00 ∷ 0x20 ∷ 0x4E ∷ 0x00 ∷ 0x00 ∷ 0xC0 ∷ 0x4D ∷ 0x00 ∷ 0x00 ∷ 0x20 ∷ 0x4E ∷ 0x00 ∷ 0x00
    ∷ 0x12 ∷ 0x00 ∷ 0x30 ∷ 0x75 ∷ 0x00 ∷ 0x00 ∷ 0xD0 ∷ 0x74 ∷ 0x00 ∷ 0x00 ∷ 0x30 ∷ 0x75 ∷ 0x00 ∷ 0x00
    ∷ 0x12 ∷ 0x00 ∷ 0x60 ∷ 0xEA ∷ 0x00 ∷ 0x00 ∷ 0xF6 ∷ 0xE9 ∷ 0x00 ∷ 0x00 ∷ 0x56 ∷ 0xEA ∷ 0x00 ∷ 0x00
    ∷ 0x00 ∷ []

unfoldable pub frames_five : List FrameRow
frames_five = frame_row 0 1000 20000 19904 ∷ frame_row 0 1000 30000 29904 ∷ frame_row 0 41000 60000 59894 ∷ []

-- Frame 60 has a message in mode 0 alone: mode 1's is dropped there, and does not hold its release back.
unfoldable pub plan_dropped : List ℕ
plan_dropped = plan_of_two 2 ((120 ∷ 2 ∷ []) ∷ (120 ∷ 6 ∷ []) ∷ []) ((120 ∷ 3 ∷ []) ∷ [])

unfoldable pub table_dropped : List ℕ
table_dropped = table_of_two 20 120 1 2 ((40 ∷ 38 ∷ []) ∷ (60 ∷ 58 ∷ []) ∷ (80 ∷ 78 ∷ []) ∷ (120 ∷ 118 ∷ []) ∷ [])

unfoldable pub frames_dropped : List FrameRow
frames_dropped = frame_row 0 21 40 38 ∷ frame_row 0 1 60 58 ∷ frame_row 0 61 80 78 ∷ frame_row 0 101 120 118 ∷ []

-- A run of 20 ticks whose reader has modes of 40 and 60; one of 4 read with 4 and 6, with 8 and 12; one of 12 that a mode of 40 reads with 10;
-- runs of 4 and of 12, read with 8.
unfoldable pub plan_two_modes : List ℕ
plan_two_modes = plan_of_two 1 ((120 ∷ 6 ∷ []) ∷ []) ((40 ∷ 1 ∷ []) ∷ (60 ∷ 1 ∷ []) ∷ [])

unfoldable pub plan_equal : List ℕ
plan_equal = plan_of_two 1 ((12 ∷ 3 ∷ []) ∷ []) ((12 ∷ 3 ∷ []) ∷ (12 ∷ 2 ∷ []) ∷ [])

unfoldable pub plan_both : List ℕ
plan_both = plan_of_two 1 ((24 ∷ 6 ∷ []) ∷ []) ((24 ∷ 3 ∷ []) ∷ (24 ∷ 2 ∷ []) ∷ [])

unfoldable pub plan_faster : List ℕ
plan_faster = plan_of_two 1 ((12 ∷ 1 ∷ []) ∷ []) ((40 ∷ 4 ∷ []) ∷ [])

unfoldable pub plan_slower : List ℕ
plan_slower = plan_of_two 1 ((24 ∷ 6 ∷ []) ∷ (24 ∷ 2 ∷ []) ∷ []) ((24 ∷ 3 ∷ []) ∷ [])

unfoldable pub table_both : List ℕ
table_both = table_of_two 20 24 1 1 ((8 ∷ 7 ∷ []) ∷ (12 ∷ 11 ∷ []) ∷ (16 ∷ 15 ∷ []) ∷ (24 ∷ 23 ∷ []) ∷ [])

-- Job A with a receiver whose mode has 40,000 ticks, and with one that no mode invokes.
unfoldable pub plan_often : List ℕ
plan_often = file (changed (changed records_a 6 1 40000) 6 2 40000)

unfoldable pub plan_unread : List ℕ
plan_unread = file (take 11 records_a ++ drop 12 records_a)

-- Two tasks of node 0, each read by node 1 once in four runs; task 1 reads all of task 0's on their node.
unfoldable pub plan_within : List ℕ
plan_within = file (changed (records_s 0 1 1 4) 11 2 4 ++ (rec 7 (0 ∷ 1 ∷ []) ∷ []))

unfoldable pub table_within : List ℕ
table_within =
    file
    (rec 20 (60 ∷ 1 ∷ 2 ∷ [])
    ∷ rec 17 (0 ∷ 0 ∷ 2 ∷ [])
    ∷ rec 18 (0 ∷ 60 ∷ 58 ∷ 59 ∷ [])
    ∷ rec 18 (1 ∷ 60 ∷ 59 ∷ 60 ∷ [])
    ∷ [])

unfoldable pub consumer_jobs : List Entry
consumer_jobs =
    made_thin plan_five 61 table_five frames_five  -- figure 5
    ∷ not_made_thin plan_five 60 13 61
    ∷ has_messages true plan_five 4 ∷ walks true plan_five 3 4
    ∷ passes plan_five table_five frames_five
    ∷ fails plan_five (16 ∷ drop 1 table_five) 21 0  -- with the other head it has a frame too few
    ∷ passes plan_five table_a (frames_a 19904 29904 39904 59894)
    ∷ fails plan_five (20 ∷ drop 1 table_a) 21 0
    ∷ fails plan_five (take 8 table_five ++ table_five) 20 8  -- a head stands only at the front
    ∷ fails plan_five (take 8 table_five ++ table_a) 20 8
    ∷ fails plan_five (19 ∷ drop 1 table_five) 20 0
    ∷ made_thin plan_a plenty (table_of_two 20 60000 72 96 ((60000 ∷ 59894 ∷ []) ∷ [])) (frame_row 0 41000 60000 59894 ∷ [])
    ∷ made_thin plan_dropped plenty table_dropped frames_dropped  -- dropped in one mode only
    ∷ has_messages true plan_dropped 5 ∷ walks true plan_dropped 4 5
    ∷ carries plan_dropped table_dropped 0 (1 ∷ []) ∷ carries plan_dropped table_dropped 1 (0 ∷ [])
    ∷ carries plan_dropped table_dropped 3 (0 ∷ 1 ∷ [])
    ∷ made plan_two_modes plenty (table_of_two 16 20 1 1 ((20 ∷ 19 ∷ []) ∷ [])) (frame_row 0 1 20 19 ∷ [])  -- two receivers
    ∷ not_made_thin plan_two_modes plenty 7 0
    ∷ not_made_thin plan_faster plenty 7 0  -- the grid takes in a receiver that needs every message
    ∷ made_thin plan_equal plenty (table_of_two 20 4 1 1 ((4 ∷ 3 ∷ []) ∷ [])) (frame_row 0 1 4 3 ∷ [])  -- equal least periods
    ∷ made_thin plan_both plenty table_both (frame_row 0 5 8 7 ∷ frame_row 0 9 12 11 ∷ frame_row 0 13 16 15 ∷ frame_row 0 21 24 23 ∷ [])  -- a read at 12
    ∷ made_thin plan_slower plenty table_both (frame_row 0 5 8 7 ∷ frame_row 0 1 12 11 ∷ frame_row 0 13 16 15 ∷ frame_row 0 21 24 23 ∷ [])
    ∷ carries plan_slower table_both 1 (1 ∷ [])  -- the slower mode's message is needed
    ∷ made plan_often plenty table_a (frames_a 19904 29904 39904 59894)  -- receiver of 40,000
    ∷ not_made_thin plan_often plenty 7 0
    ∷ fails plan_often (20 ∷ []) 7 0 ∷ fails plan_often (16 ∷ []) 20 1  -- the first byte alone says which edition judges the plan
    ∷ made plan_unread plenty table_a (frames_a 19904 29904 39904 59894)  -- a consumer never invoked
    ∷ not_made_thin plan_unread plenty 6 0
    ∷ made_thin plan_within plenty table_within (frame_row 0 46 60 58 ∷ frame_row 1 46 60 59 ∷ [])  -- within a node nothing is needed
    ∷ []

-- The entries with more than a thousand frames, which take the longest to compute; `longjobs` has them, so that no edit of a rule waits for them.
unfoldable pub long_entries : List Entry
long_entries =
    not_made (file (records_many 1024)) plenty 9 0  -- 9
    ∷ not_made (file (records_many 1023)) plenty 12 1022  -- 1,024 pairs are allowed
    ∷ walks false (file (records_many 65535)) 1025 1025  -- one pair too many ends it, whatever P
    ∷ walks false (file (changed (changed (changed records_a 7 2 1) 9 2 60000) 10 2 60000 ++ (rec 7 (1 ∷ 0 ∷ []) ∷ []))) 1025 2050  -- two runs end at each deadline
    ∷ []

-- All others.
unfoldable pub entries : List Entry
entries = document_jobs ++ (limits ++ (own_entries ++ (byte_entries ++ consumer_jobs)))
