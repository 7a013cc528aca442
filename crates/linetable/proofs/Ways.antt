-- The ways out of making a line's table, one law each.
use mathlib.Core.Path.{◌≡◌, refl, sym, ap, ap₂, ◌∙◌}
use mathlib.Core.List.{List, [], ◌++◌, map}
use native.Mathlib.Nat.{zero-add}
use native.Mathlib.Omega.{arith}
use borrow.Author.Tests.{le-leb, lt-leb}
use lib.ListN.{length, get_or, drop, replicate, length-map}
use lib.Seq.{sets, sets-eq}
use Prim.Native.Nat.{ℕ, ◌+◌, ◌-◌, ◌≤◌, ◌<◌}
use Rattle.rules.specs.Limits.{most_frames}
use Rattle.laws.specs.Res.{Res, ok, refuse}
use Rattle.laws.specs.Lists.{tab}
use Rattle.laws.proofs.Lists.{length-tab, length-pad_to}
use Rattle.rules.specs.Plan.{Plan}
use Rattle.rules.specs.Frames.{Layout, pairs, layout_of}
use Rattle.rules.specs.LatestRelease.{Placed, numbered_from, place, latest_release}
use Rattle.rules.specs.Table.{alone, MadeTable, made_table, table_bytes, table_length}
use Rattle.rules.proofs.RuleSteps.{rule_twelve}
use Rattle.answers.specs.declared.Refusal.{Refusal}
use Rattle.answers.specs.declared.Refusal.TheVariants.{BufferTooShort, NoRoom}
use Rattle.answers.specs.Refusals.{said}
use Rattle.line.specs.Line.{Drawing, line_in, line_of, task_of, deadline_of}
use Rattle.payloads.specs.Tests.{task_time}
use Rattle.std.specs.Prelude.{Result, Ok, Err}
use Rattle.placing.specs.Placing.{Placing, frame_at, time_of, laid}
use Rattle.units.specs.declared.FrameNo.{FrameNo}
use Rattle.rows.specs.Rows.{Rows, TableRows, rows_laid, scattered, table_rows}
use Rattle.rows.specs.Frames.{rows_with, NoRows}
use Rattle.linetable.specs.Making.{Making, Makes, tabled}
use Rattle.linetable.specs.Steps.{Stands, laid_table, bytes_of}
use Rattle.line.proofs.Drawn.{Drawn, drawn}
use Rattle.linetable.proofs.OverLine.{rule-is, deadlines_rise}
use Rattle.linetable.proofs.Tabled.{Fair, fair, bytes-long, table-written, rows_are}

-- ---- a refusal, and a table

pub makes_refused : (x : Refusal) (r : Making) (before after : List ℕ) (rule : Res MadeTable) → r ≡ record { answer = Err x; rows = rows_laid [] }
    → after ≡ before → rule ≡ said x → Makes r before after rule
makes_refused x r before after rule e b q = record { answered = rw (e, q); left = rw (e, q); written = rw (b, q) }

-- no frame rows in arrays: four arrays of zeros
pub no_rows : {tasks releases deadlines starts : List ℕ} → NoRows tasks releases deadlines starts → rows_with 0 tasks releases deadlines starts ≡ rows_laid []
unfolding rows_laid
no_rows z = rw (z.0, z.1.0, z.1.1.0, z.1.1.1)

-- a refusal with the starts as they came
tabled-refused : (x : Refusal) (line : Drawing) (starts buffer : List ℕ) (rule : Res MadeTable) → starts ≡ replicate most_frames 0 → rule ≡ said x
    → Makes (tabled (Err x) line starts) buffer buffer rule
tabled-refused x line starts buffer rule z q =
    makes_refused x _ buffer buffer rule (ap (λ (rows : Rows). record { answer = Err x; rows = rows }) (no_rows (refl, (refl, (refl, z))))) refl q

-- the table at the front is the table stored there
pub table-stored : (table old : List ℕ) → length table ≤ length old → sets old 0 table ≡ table ++ drop (length table) old
table-stored table old h =
    let room : 0 + length table ≤ length old = omega arith in
    sets-eq table old 0 room ∙ ap (λ (k : ℕ). table ++ drop k old) (zero-add (length table))

pub makes_table : (p : Plan) (placed : List Placed) (n : ℕ) (rows : Rows) (before after : List ℕ) → Fair p placed
    → n ≡ table_length (length (layout_of p).control) (length (layout_of p).pairs) → n ≤ length before
    → rows ≡ rows_laid (made_table (layout_of p) (map alone placed)).rows → after ≡ sets before 0 (table_bytes (layout_of p) (map alone placed))
    → Makes (record { answer = Ok n; rows = rows }) before after (ok (made_table (layout_of p) (map alone placed)))
unfolding made_table
makes_table p placed n rows before after h e room q s =
    let table = table_bytes (layout_of p) (map alone placed) in
    let long : length table ≡ n = bytes-long p (map alone placed) (length-map placed alone ∙ h.settled.count) ∙ sym e in
    record {
      answered = ap ok (sym long);
      left = q;
      written = s ∙ table-stored table before (rw long room);
    }

-- ---- refusals 12 and 13

-- what the rule says of frames that are all placed, and of one that is not
module _ (l : Layout) where
  twelve : (k : FrameNo) (rule : Res (List Placed)) → latest_release l ≡ rule → (laid rule).outcome ≡ Err k → latest_release l ≡ refuse 12 k.0
  twelve k (ok placed) e q = let z : ◌≡◌ {A = ℕ} 0 1 = cc in absurd (omega arith)
  twelve k (refuse n f) e q =
      let there : ◌≡◌ {A = FrameNo} (record { 0 = f }) k = cc in
      let number : n ≡ 12 = rule_twelve l n f e in
      e ∙ ap₂ refuse number (ap (λ (x : FrameNo). x.0) there)

  -- the rule has placed every frame
  pub record AllPlaced (placing : Placing) : Type 0 where
    pub placed : List Placed
    pub rule : latest_release l ≡ ok placed
    pub is : placing ≡ laid (ok placed)

  all_of : (rule : Res (List Placed)) (placing : Placing) → latest_release l ≡ rule → placing ≡ laid rule → placing.outcome ≡ Ok tt → AllPlaced placing
  all_of (ok placed) placing e q o = record { placed = placed; rule = e; is = q }
  all_of (refuse n f) placing e q o =
      let z : ◌≡◌ {A = Result (Unit {0}) FrameNo} (Err (record { 0 = f })) (Ok tt) = sym (ap (λ (p : Placing). p.outcome) q) ∙ o in
      let y : ◌≡◌ {A = ℕ} 0 1 = cc in absurd (omega arith)

-- the latest-release rule over the arrays of a line, from an end on
abbrev pub rule_over : Drawing → ℕ → Res (List Placed)
rule_over line end =
    place line.resolution.0 line.gap.0 line.floor.0 (time_of line.times) line.frames end
    (numbered_from 0 (tab (frame_at line.tasks line.releases line.deadlines) 0 line.frames)) []

module _ (line : Drawing) (s : Stands line) where
  drawn_of : Drawn s.plan
  drawn_of = drawn s.consumers s.file s.plan (layout_of s.plan) s.is_read s.is_laid

  -- what the arrays of a line are known to keep
  pub few-frames : line.frames ≤ most_frames
  unfolding line_of layout_of pairs
  few-frames = rw s.is drawn_of.few

  pub few-controls : line.controls ≤ 8
  unfolding line_of
  few-controls = rw s.is drawn_of.controls

  pub tasks-long : length line.tasks ≡ most_frames
  unfolding line_of layout_of pairs
  tasks-long = rw s.is (length-pad_to most_frames 0 (map task_of (pairs s.plan)))

  pub deadlines-long : length line.deadlines ≡ most_frames
  unfolding line_of layout_of pairs
  deadlines-long = rw s.is (length-pad_to most_frames 0 (map deadline_of (pairs s.plan)))

  pub times_long : length line.times ≡ 32
  unfolding line_of
  times_long = rw s.is (length-tab (task_time s.plan) 0 32)

  pub deadlines-rising : (i j : ℕ) → i ≤ j → j < line.frames → get_or line.deadlines i 0 ≤ get_or line.deadlines j 0
  deadlines-rising = rw s.is (deadlines_rise s.plan drawn_of)

  module _ (placing : Placing) {end : ℕ} (is_end : end ≡ line.period.0 - line.gap.0) (q : placing ≡ laid (rule_over line end)) where
    pub placing_is : placing ≡ laid (latest_release (layout_of s.plan))
    placing_is =
        let e : rule_over line end ≡ latest_release (layout_of s.plan) = rw (is_end, s.is) (rule-is s.plan drawn_of) in
        q ∙ ap laid e

    -- 12: a frame found no room
    no_room : (k : FrameNo) (room : ℕ) → placing.outcome ≡ Err k → laid_table (layout_of s.plan) room ≡ refuse 12 k.0
    unfolding laid_table
    no_room k room o =
        let t = twelve (layout_of s.plan) k (latest_release (layout_of s.plan)) refl (sym (ap (λ (p : Placing). p.outcome) placing_is) ∙ o) in
        rw t

    pub all_placed : placing.outcome ≡ Ok tt → AllPlaced (layout_of s.plan) placing
    all_placed o = all_of (layout_of s.plan) (latest_release (layout_of s.plan)) placing refl placing_is o

    pub no_room-made : (k : FrameNo) (starts buffer : List ℕ) → placing.outcome ≡ Err k → starts ≡ replicate most_frames 0
        → Makes (tabled (Err (NoRoom k)) line starts) buffer buffer (laid_table (layout_of s.plan) (length buffer))
    no_room-made k starts buffer o z = tabled-refused (NoRoom k) line starts buffer _ z (no_room k (length buffer) o)

  module _ (placing : Placing) (a : AllPlaced (layout_of s.plan) placing) where
    fair_of : Fair s.plan a.placed
    fair_of = fair s.consumers s.file s.plan a.placed s.is_read s.is_laid a.rule

    -- the length of the table that is to be written
    long : length (table_bytes (layout_of s.plan) (map alone a.placed)) ≡ table_length line.controls line.frames
    unfolding line_of
    long = bytes-long s.plan (map alone a.placed) (length-map a.placed alone ∙ fair_of.settled.count) ∙ rw s.is

    -- 13: the buffer is too short
    too_short : (room : ℕ) → room < table_length line.controls line.frames → laid_table (layout_of s.plan) room ≡ refuse 13 (table_length line.controls line.frames)
    unfolding laid_table made_table
    too_short room h = rw (a.rule, long, lt-leb (table_length line.controls line.frames) room h)

    fits_in : (room : ℕ) → table_length line.controls line.frames ≤ room → laid_table (layout_of s.plan) room ≡ ok (made_table (layout_of s.plan) (map alone a.placed))
    unfolding laid_table made_table
    fits_in room h = rw (a.rule, long, le-leb (table_length line.controls line.frames) room h)

    pub short-made : (starts buffer : List ℕ) {n : ℕ} → n ≡ table_length line.controls line.frames → length buffer < n → starts ≡ replicate most_frames 0
        → Makes (tabled (Err (BufferTooShort (record { 0 = n }))) line starts) buffer buffer (laid_table (layout_of s.plan) (length buffer))
    short-made starts buffer {n} e h z =
        tabled-refused (BufferTooShort (record { 0 = n })) line starts buffer _ z
        (too_short (length buffer) (omega arith) ∙ ap (refuse 13) (sym e))

    -- the data rows of the placed frames, but for their starts
    abbrev rows : TableRows
    rows = table_rows line.tasks line.deadlines line.times placing.numbers placing.starts line.frames

    pub written-made : (starts before after : List ℕ) {n : ℕ} → n ≡ table_length line.controls line.frames → n ≤ length before
        → after ≡ sets before 0 (bytes_of (line_in line) placing.starts rows)
        → starts ≡ scattered placing.numbers placing.starts line.frames (replicate most_frames 0)
        → Makes (tabled (Ok n) line starts) before after (laid_table (layout_of s.plan) (length before))
    unfolding line_of layout_of pairs made_table bytes_of
    written-made starts before after {n} q room w t =
        let bytes : bytes_of (line_in line) placing.starts rows ≡ table_bytes (layout_of s.plan) (map alone a.placed) =
        rw (s.is, a.is) (table-written s.plan a.placed fair_of) in
        rw (fits_in (length before) (omega arith))
        (makes_table s.plan a.placed n _ before after fair_of (q ∙ rw s.is) (omega arith)
        (rows_are s.plan a.placed fair_of _ (rw s.is) (rw s.is) (rw s.is) (rw s.is) (t ∙ rw (s.is, a.is)))
        (w ∙ ap (sets before 0) bytes))
