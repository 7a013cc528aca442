-- The bytes of what was gathered are the bytes of the table that was read, and as many as the table's length says.
use mathlib.Core.Path.{◌≡◌, refl, sym, ap, ◌∙◌}
use mathlib.Core.Bool.{true, false}
use mathlib.Core.List.{List, [], ◌∷◌, ◌++◌, map}
use native.Mathlib.Omega.{arith}
use borrow.Author.Tests.{le-leb, lt-leb}
use lib.Dec.{leb}
use lib.ListN.{length, length-append}
use lib.Seq.{sets}
use Prim.Native.Nat.{ℕ, ◌+◌, ◌≤◌, ◌<◌}
use Rattle.laws.specs.Lists.{joined, tab}
use Rattle.laws.proofs.Lists.{length-tab}
use Rattle.laws.proofs.Arrays.{get_or-laid, tab_list}
use Rattle.rules.specs.Limits.{most_nodes, most_frames}
use Rattle.rules.specs.Records.{kinds, fields, body_length, head_kind}
use Rattle.rules.specs.Frames.{ControlRow, no_control_row}
use Rattle.rules.specs.Table.{DataRow, control_bytes, data_bytes, longest_table, record_length, table_length, table_of_rows}
use Rattle.rules.proofs.Heads.{head-of}
use Rattle.rules.proofs.TableLength.{length-controls, length-datas, length_most}
use Rattle.table.specs.Rows.{control_in, data_in, head_in, table_in}
use Rattle.table.proofs.Glued.{length-head, head_in_lem}
use Rattle.sheet.proofs.Pinned.{read_fits}
use Rattle.sheet.specs.Back as back
use Rattle.sheet.specs.Back.{SoFar, read_back, read_sheet, table, table_from, table_read, unreadable_line}
use Rattle.sheetreader.specs.declared.Held.{Held}
use Rattle.std.specs.Prelude.{Result, Ok, Err}
use Rattle.sheetreader.specs.declared.NoTable.{NoTable}
use Rattle.sheetreader.specs.declared.NoTable.TheVariants.{Needs, Unreadable}
use Rattle.sheetreader.specs.Memory.{Few, Laid, laid, back_for, bytes_in, deadline_of, lay_out, left_by, start_of, stop_of, task_of}
use Rattle.table.specs.Memory.{control_node_of, control_start_of, control_stop_of}
use Rattle.sheetreader.proofs.Gathering.{GatheredIn, few-laid}

-- ---- how many they are

length-end : 1 ≡ record_length 0
unfolding record_length body_length fields kinds
length-end = refl

table-long : (head period : ℕ) (control : List ControlRow) (rows : List DataRow) (controls datas : ℕ) → length control ≡ controls → length rows ≡ datas
    → length (table_in head period control rows controls datas) ≡ table_length controls datas
unfolding table_in table_length
table-long head period control rows controls datas e f =
    let H = head_in head period controls datas in
    let C = joined (map control_bytes control) in
    let D = joined (map data_bytes rows) in
    let h : length (H ++ (C ++ (D ++ (0 ∷ [])))) ≡ length H + length (C ++ (D ++ (0 ∷ []))) = length-append H (C ++ (D ++ (0 ∷ []))) in
    let c : length (C ++ (D ++ (0 ∷ []))) ≡ length C + length (D ++ (0 ∷ [])) = length-append C (D ++ (0 ∷ [])) in
    let d : length (D ++ (0 ∷ [])) ≡ length D + record_length 0 = length-append D (0 ∷ []) ∙ ap (λ (n : ℕ). length D + n) length-end in
    rw (h, c, d, length-head head period controls datas, length-controls control, length-datas rows, e, f) (omega arith)

pub bytes-long : (m : Laid) → length (bytes_in m) ≡ table_length m.held.controls m.held.rows
unfolding bytes_in
bytes-long m =
    table-long (head_kind m.held.consumers) m.held.period.0 (tab (control_in m.nodes m.control_starts m.control_stops) 0 m.held.controls)
    (tab (data_in m.tasks m.deadlines m.starts m.stops) 0 m.held.rows) m.held.controls m.held.rows
    (length-tab (control_in m.nodes m.control_starts m.control_stops) 0 m.held.controls)
    (length-tab (data_in m.tasks m.deadlines m.starts m.stops) 0 m.held.rows)

-- ---- written, or not

module _ (m : Laid) {needed : ℕ} (e : needed ≡ table_length m.held.controls m.held.rows) where
  long : length (bytes_in m) ≡ needed
  long = bytes-long m ∙ sym e

  module _ (lent : List ℕ) (h : length lent < needed) where
    too_long : leb (length (bytes_in m)) (length lent) ≡ false
    too_long = rw long (lt-leb needed (length lent) h)

    pub short-result : Err (Needs needed) ≡ back_for (table (bytes_in m)) lent
    short-result = rw (too_long, long)

    pub short-left : lent ≡ left_by (table (bytes_in m)) lent
    short-left = rw too_long

  module _ (lent : List ℕ) (h : needed ≤ length lent) where
    enough : leb (length (bytes_in m)) (length lent) ≡ true
    enough = rw long (le-leb needed (length lent) h)

    pub room-result : Ok needed ≡ back_for (table (bytes_in m)) lent
    room-result = rw (enough, long)

    pub room-left : {after : List ℕ} → after ≡ sets lent 0 (bytes_in m) → after ≡ left_by (table (bytes_in m)) lent
    room-left q = q ∙ rw enough

-- ---- which they are

no_data : DataRow
no_data = record { task = 0; deadline = 0; start = 0; stop = 0 }

module _ (s : SoFar) where
  control-again : length s.control ≤ most_nodes
      → tab (control_in (lay_out s).nodes (lay_out s).control_starts (lay_out s).control_stops) 0 (length s.control) ≡ s.control
  unfolding lay_out control_in
  control-again h =
      tab_list (control_in (lay_out s).nodes (lay_out s).control_starts (lay_out s).control_stops) s.control no_control_row (length s.control) refl
      (λ k w.
      rw (
        get_or-laid control_node_of s.control no_control_row most_nodes k refl (omega arith),
        get_or-laid control_start_of s.control no_control_row most_nodes k refl (omega arith),
        get_or-laid control_stop_of s.control no_control_row most_nodes k refl (omega arith),
      ))

  rows-again : length s.rows ≤ most_frames
      → tab (data_in (lay_out s).tasks (lay_out s).deadlines (lay_out s).starts (lay_out s).stops) 0 (length s.rows) ≡ s.rows
  unfolding lay_out data_in no_data
  rows-again h =
      tab_list (data_in (lay_out s).tasks (lay_out s).deadlines (lay_out s).starts (lay_out s).stops) s.rows no_data (length s.rows) refl
      (λ k w.
      rw (
        get_or-laid task_of s.rows no_data most_frames k refl (omega arith),
        get_or-laid deadline_of s.rows no_data most_frames k refl (omega arith),
        get_or-laid start_of s.rows no_data most_frames k refl (omega arith),
        get_or-laid stop_of s.rows no_data most_frames k refl (omega arith),
      ))

  -- either head is written alike
  table-in : table_in (head_kind s.consumers) s.period s.control s.rows (length s.control) (length s.rows) ≡ table_read s
  unfolding table_in table_read table_of_rows
  table-in = rw (head_in_lem (head-of s.consumers) s.period (length s.control) (length s.rows))

  bytes_read : Few (lay_out s).held → bytes_in (lay_out s) ≡ table_read s
  unfolding bytes_in lay_out
  bytes_read h = rw (control-again h.controls, rows-again h.rows) table-in

module _ (m : Laid) (text : List ℕ) {r : Result Held NoTable} (g : GatheredIn r m (read_sheet text)) where
  module _ (e : r ≡ Ok m.held) where
    -- what is held is what was read
    by_sheet : (C : back.Back → Type 0) → ((s : SoFar) → m ≡ lay_out s → Few (lay_out s).held → C (back.sheet s)) → C (read_sheet text)
    by_sheet C told = go (read_sheet text) refl g
      where
        go : (b : back.Back) → read_sheet text ≡ b → GatheredIn r m b → C b
        go (back.sheet s) read q =
            let p : r ≡ Ok (lay_out s).held = q.0 in
            let held : m.held ≡ (lay_out s).held = cc in
            told s
            (ap (λ (h : Held). laid h m.nodes m.control_starts m.control_stops m.tasks m.deadlines m.starts m.stops) held ∙ q.1)
            (few-laid (read_fits text s read))
        go (back.unreadable n) read q = let z : ◌≡◌ {A = ℕ} 0 1 = cc in absurd (omega arith)

    pub sheet-few : Few m.held
    sheet-few = by_sheet (λ b. Few m.held) (λ s same few. rw same few)

    pub sheet_back : table (bytes_in m) ≡ read_back text
    unfolding read_back
    sheet_back = by_sheet (λ b. table (bytes_in m) ≡ table_from b) (λ s same few. ap table (rw same (bytes_read s few)))

  pub refused_back : {why : NoTable} → r ≡ Err why → (lent : List ℕ) → (Err why ≡ back_for (read_back text) lent) × (lent ≡ left_by (read_back text) lent)
  unfolding read_back
  refused_back {why} e lent = go (read_sheet text) g
    where
      go : (b : back.Back) → GatheredIn r m b → (Err why ≡ back_for (table_from b) lent) × (lent ≡ left_by (table_from b) lent)
      go (back.sheet s) q = let p : r ≡ Ok (lay_out s).held = q.0 in let z : ◌≡◌ {A = ℕ} 0 1 = cc in absurd (omega arith)
      go (back.unreadable k) q = let same : why ≡ Unreadable k = cc in (ap Err same, refl)

-- ---- no table that is read is longer than the longest

pub read_short : (text bytes : List ℕ) → read_back text ≡ table bytes → length bytes ≤ longest_table
unfolding read_back
read_short text bytes e = go (read_sheet text) refl e
  where
    go : (b : back.Back) → read_sheet text ≡ b → table_from b ≡ table bytes → length bytes ≤ longest_table
    go (back.sheet s) read q =
        let fits = read_fits text s read in
        let same : table_read s ≡ bytes = cc in
        let long = table-long (head_kind s.consumers) s.period s.control s.rows (length s.control) (length s.rows) refl refl in
        rw (← same, ← table-in s, long) (length_most (length s.control) (length s.rows) fits.controls fits.datas)
    go (back.unreadable n) read q = let z : ◌≡◌ {A = ℕ} 0 1 = cc in absurd (omega arith)
