-- A table that is gathered record by record is the table of the records: over lists, then over a file that the record reader walks.
use mathlib.Core.Path.{◌≡◌, refl, sym, ap, ◌∙◌, subst}
use mathlib.Core.Bool.{Bool, true, false, ◌&&◌, ◌||◌}
use mathlib.Core.List.{List, [], ◌∷◌, ◌++◌, map, append_assoc}
use native.Mathlib.Omega.{arith}
use lib.Dec.{eqb, leb}
use lib.ListN.{length, get_or, drop, replicate}
use borrow.Author.Tests.{ne_eqb, eqb-true, eqb-false, leb-true}
use Prim.Native.Nat.{◌<◌, ℕ, zero, suc, ◌+◌, ◌-◌, ◌≤◌}
use Rattle.laws.specs.Res.{Res, ok, refuse}
use Rattle.laws.proofs.Lists.{length_snoc, both_left, both_right}
use Rattle.laws.proofs.Res.{refuse≢ok, ok_injective}
use Rattle.rules.specs.Limits.{most_nodes, most_frames}
use Rattle.rules.specs.Records.{Rec, fields, body_length, decoded, record_of, head_kind, is_head, table_follows, before, records}
use Rattle.rules.specs.Plan.{is_kind, things}
use Rattle.rules.specs.Frames.{ControlRow}
use Rattle.rules.specs.Checker.{Row, name_of, row_of, TableRead, is_head_record, head_of, table_of, control_row_of, data_row_of}
use Rattle.rules.proofs.Heads.{IsHead, basic_head, consumers_head, head_means, head-fields}
use Rattle.records.specs.Reader.{next_at}
use Rattle.records.specs.declared.Sort.TheVariants.{Table}
use Rattle.records.specs.declared.Step.{Step}
use Rattle.records.specs.declared.Step.TheVariants.{Record, End, Wrong}
use Rattle.records.proofs.Steps.{from, onward, one-step, Found, found}
use Rattle.table.specs.Memory as memory
use Rattle.table.specs.declared.Header.{Header}
use Rattle.table.specs.declared.Heading.{Heading}
use Rattle.table.specs.declared.read.Gathered.{Gathered}
use Rattle.units.specs.declared.Offset.{Offset}
use Rattle.table.specs.declared.read.Outcome.TheVariants.{Whole, Broken}
use Rattle.laws.specs.Loops.{placed}
use Rattle.table.specs.Memory.{ReadTable, heading_of, read_with, control_node_of, control_start_of, control_stop_of, task_of, deadline_of, start_of, stop_of, lay_out, no_table, empty_table, table_from, header_of, header_read, control_read, row_read, with_header, with_control, with_row, with_record, with_records, reading, gathered_from, reading_of, reported}
use Rattle.laws.proofs.Arrays.{placed-column}

-- ---- over lists

abbrev rec : ℕ → List ℕ → Rec
rec k b = record { kind = k; numbers = b }

-- rows alone
data Rows : List Rec → Type 0 where
  none : Rows []
  control : (b : List ℕ) {rs : List Rec} → Rows rs → Rows (rec 17 b ∷ rs)
  row : (b : List ℕ) {rs : List Rec} → Rows rs → Rows (rec 18 b ∷ rs)

-- the records of a table (rule 2.6): a head, then rows
data Tabled : List Rec → Type 0 where
  nothing : Tabled []
  headed : {head : ℕ} → IsHead head → (b : List ℕ) {rs : List Rec} → Rows rs → Tabled (rec head b ∷ rs)

-- a table with rows more, and with the rows of some records more
abbrev more_of : TableRead → List ControlRow → List Row → TableRead
more_of t cs ds =
    record { period = t.period; controls = t.controls; datas = t.datas; control = t.control ++ cs; rows = t.rows ++ ds }

unfoldable extended : TableRead → List Rec → TableRead
extended t rs = more_of t (map control_row_of (things 17 rs)) (map row_of (map data_row_of (things 18 rs)))

append-nothing : {A : Type 0} (l : List A) → l ++ [] ≡ l
append-nothing [] = refl
append-nothing {A} (x ∷ l) = ap (λ (r : List A). x ∷ r) (append-nothing l)

control_more : (t : TableRead) (b : List ℕ) → with_record (lay_out t) (rec 17 b) ≡ lay_out (more_of t (control_row_of b ∷ []) [])
unfolding with_record with_control table_from lay_out
control_more t b =
    rw (
      placed-column most_nodes control_node_of t.control (control_row_of b),
      placed-column most_nodes control_start_of t.control (control_row_of b),
      placed-column most_nodes control_stop_of t.control (control_row_of b),
      sym (length_snoc t.control (control_row_of b)),
      append-nothing t.rows,
    )

row_more : (t : TableRead) (b : List ℕ) → with_record (lay_out t) (rec 18 b) ≡ lay_out (more_of t [] (row_of (data_row_of b) ∷ []))
unfolding with_record with_row table_from lay_out row_of name_of
row_more t b =
    rw (
      placed-column most_frames task_of t.rows (row_of (data_row_of b)),
      placed-column most_frames deadline_of t.rows (row_of (data_row_of b)),
      placed-column most_frames start_of t.rows (row_of (data_row_of b)),
      placed-column most_frames stop_of t.rows (row_of (data_row_of b)),
      sym (length_snoc t.rows (row_of (data_row_of b))),
      append-nothing t.control,
    )

rows-gathered : {rs : List Rec} (t : TableRead) → Rows rs → with_records (lay_out t) rs ≡ lay_out (extended t rs)
unfolding extended things is_kind
rows-gathered t none = rw (append-nothing t.control, append-nothing t.rows)
rows-gathered t (control b {rs} h) =
    ap (λ (m : memory.Table). with_records m rs) (control_more t b) ∙ rows-gathered (more_of t (control_row_of b ∷ []) []) h
    ∙ rw (append_assoc t.control (control_row_of b ∷ []) (map control_row_of (things 17 rs)), append-nothing t.rows)
rows-gathered t (row b {rs} h) =
    ap (λ (m : memory.Table). with_records m rs) (row_more t b) ∙ rows-gathered (more_of t [] (row_of (data_row_of b) ∷ [])) h
    ∙ rw (append_assoc t.rows (row_of (data_row_of b) ∷ []) (map row_of (map data_row_of (things 18 rs))), append-nothing t.control)

-- the table of a head alone
abbrev head_table : List ℕ → TableRead
head_table b = record { period = get_or b 0 0; controls = get_or b 1 0; datas = get_or b 2 0; control = []; rows = [] }

-- Gathered from nothing, the records of a table make that table.
table-gathered : {rs : List Rec} → Tabled rs → with_records empty_table rs ≡ lay_out (table_of rs)
unfolding empty_table lay_out no_table table_of head_of is_head_record is_head head_kind things is_kind extended with_record with_header table_from header_of
table-gathered nothing = refl
table-gathered (headed basic_head b {rs} h) = rows-gathered (head_table b) h
table-gathered (headed consumers_head b {rs} h) = rows-gathered (head_table b) h

-- ---- over a file

before-ok : {C : Type 0} (r : Rec) (w : Res (List Rec)) (rs : List Rec) → before table_follows 20 r w ≡ ok rs
    → ((tail : List Rec) → w ≡ ok tail → rs ≡ r ∷ tail → C) → C
before-ok r (ok tail) rs e go = go tail refl (sym (ok_injective e))
before-ok r (refuse m p) rs e go = refuse≢ok e

module _ (previous kind : ℕ) (e : table_follows previous kind ≡ true) where
  head_first : previous ≡ 0 → IsHead kind
  unfolding table_follows
  head_first h = (head_means kind).says (rw h at e)

  -- behind the head only rows stand
  row-kind : (previous ≡ 0 → ⊥) → eqb kind 0 ≡ false → (17 ≤ kind) × (kind ≤ 18)
  unfolding table_follows
  row-kind f z =
      let goes_on = is_head previous || leb previous kind in
      let all : (eqb kind 0 || (leb 17 kind && (goes_on && leb kind 18))) ≡ true = rw (ne_eqb previous 0 f) at e in
      let both : (leb 17 kind && (goes_on && leb kind 18)) ≡ true = rw z at all in (
        leb-true 17 kind (both_left (leb 17 kind) (goes_on && leb kind 18) both),
        leb-true kind 18 (both_right goes_on (leb kind 18) (both_right (leb 17 kind) (goes_on && leb kind 18) both)),
      )

  rows_behind : {rs : List Rec} (b : List ℕ) → (previous ≡ 0 → ⊥) → eqb kind 0 ≡ false → Rows rs → Rows (rec kind b ∷ rs)
  rows_behind {rs} b h z more = here (row-kind h z) (eqb kind 17) refl
    where
      here : (17 ≤ kind) × (kind ≤ 18) → (c : Bool) → eqb kind 17 ≡ c → Rows (rec kind b ∷ rs)
      here k true q = subst (λ (k : ℕ). Rows (rec k b ∷ rs)) (sym (eqb-true kind 17 q)) (control b more)
      here k false q =
          let s : 18 ≡ kind = omega (arith, eqb-false kind 17 q) in
          subst (λ (k : ℕ). Rows (rec k b ∷ rs)) s (row b more)

  -- what is no row is the head
  head_else : eqb kind 0 ≡ false → (kind ≡ 18 → ⊥) → (kind ≡ 17 → ⊥) → IsHead kind
  head_else z n m = here (eqb previous 0) refl
    where
      here : (b : Bool) → eqb previous 0 ≡ b → IsHead kind
      here true q = head_first (eqb-true previous 0 q)
      here false q = absurd (let k = row-kind (eqb-false previous 0 q) z in omega (arith, k.0, k.1, n, m))

module _ (s : List ℕ) where
  -- the records from a place on are of a shape, if the step there makes that shape of what follows it
  by_step : (previous at : ℕ) (rs : List Rec) (P : List Rec → Type 0) → P []
      → ((kind body next : ℕ) (tail : List Rec) → Found Table s previous at kind body next → from Table 20 s kind next ≡ ok tail
      → P (record_of kind (drop body s) ∷ tail))
      → (step : Step) → next_at Table s previous at ≡ step → onward Table 20 s step ≡ ok rs → P rs
  by_step previous at rs P end here (Record kind body next) q e =
      before-ok (record_of kind (drop body s)) (from Table 20 s kind next) rs e
      (λ tail w r. subst P (sym r) (here kind body next tail (found Table s previous at kind body next q) w))
  by_step previous at rs P end here End q e = subst P (ok_injective e) end
  by_step previous at rs P end here (Wrong place) q e = refuse≢ok e

  rows-from : (n previous at : ℕ) (rs : List Rec) → length s ≤ n + at → (previous ≡ 0 → ⊥) → at ≤ length s
      → from Table 20 s previous at ≡ ok rs → Rows rs
  unfolding record_of
  rows-from zero previous at rs m h w e =
      by_step previous at rs Rows none (λ kind body next tail f r. absurd (omega (arith, f.fits, f.further)))
      (next_at Table s previous at) refl (sym (one-step Table 20 s previous at w) ∙ e)
  rows-from (suc n) previous at rs m h w e =
      by_step previous at rs Rows none
      (λ kind body next tail f r.
      rows_behind previous kind f.in_order (decoded (fields kind) (drop body s)) h f.no_end
      (rows-from n kind next tail (omega (arith, f.further)) (eqb-false kind 0 f.no_end) f.fits r))
      (next_at Table s previous at) refl (sym (one-step Table 20 s previous at w) ∙ e)

  -- The records of a table: a head, then rows.
  file-tabled : (rs : List Rec) → records table_follows 20 s ≡ ok rs → Tabled rs
  unfolding record_of records from
  file-tabled rs e =
      by_step 0 0 rs Tabled nothing
      (λ kind body next tail f r.
      headed (head_first 0 kind f.in_order refl) (decoded (fields kind) (drop body s))
      (rows-from (length s) kind next tail (omega arith) (eqb-false kind 0 f.no_end) f.fits r))
      (next_at Table s 0 0) refl (sym (one-step Table 20 s 0 0 (omega arith)) ∙ e)

  -- What is gathered of a file is what reading it comes to.
  pub file-gathered : gathered_from empty_table (records table_follows 20 s) ≡ reading_of (records table_follows 20 s)
  file-gathered = here (records table_follows 20 s) refl
    where
      here : (w : Res (List Rec)) → records table_follows 20 s ≡ w → gathered_from empty_table w ≡ reading_of w
      here (ok rs) e = ap (reading Whole) (table-gathered (file-tabled rs e))
      here (refuse n p) e = refl

-- ---- one turn of gathering

gathered-before : (m : memory.Table) (r : Rec) (w : Res (List Rec)) → gathered_from m (before table_follows 20 r w) ≡ gathered_from (with_record m r) w
gathered-before m r (ok rs) = refl
gathered-before m r (refuse n p) = refl

-- what is held so far: with the rest of the file gathered in, it is the whole
pub record SoFar (s : List ℕ) (whole : ReadTable) (previous at : ℕ) (head : Header) (controls rows : ℕ)
    (control_nodes control_starts control_stops tasks deadlines starts stops : List ℕ) : Type 0 where
  pub inside : at ≤ length s
  pub counted : controls + rows ≤ at
  pub gathered : whole ≡ gathered_from (table_from head controls rows control_nodes control_starts control_stops tasks deadlines starts stops) (from Table 20 s previous at)

-- the step that the reader takes from here is given as a value, with what it is
module _ {s : List ℕ} {whole : ReadTable} {previous at : ℕ} {head : Header} {controls rows : ℕ}
    {control_nodes control_starts control_stops tasks deadlines starts stops : List ℕ}
    (h : SoFar s whole previous at head controls rows control_nodes control_starts control_stops tasks deadlines starts stops) {step : Step}
    (next-is : step ≡ next_at Table s previous at) where
  abbrev held : memory.Table
  held = table_from head controls rows control_nodes control_starts control_stops tasks deadlines starts stops

  onwards : {told : Step} → step ≡ told → whole ≡ gathered_from held (onward Table 20 s told)
  onwards q =
      h.gathered ∙ ap (gathered_from held) (one-step Table 20 s previous at h.inside ∙ ap (onward Table 20 s) (sym next-is ∙ q))

  pub wrong_turn : {place : Offset} → step ≡ Wrong place → whole ≡ reading (Broken place) (table_from head controls rows control_nodes control_starts control_stops tasks deadlines starts stops)
  wrong_turn q = onwards q

  pub end_turn : step ≡ End → whole ≡ reading Whole (table_from head controls rows control_nodes control_starts control_stops tasks deadlines starts stops)
  end_turn q = onwards q

  module _ {kind body next : ℕ} (r : step ≡ Record kind body next) where
    facts : Found Table s previous at kind body next
    facts = found Table s previous at kind body next (sym next-is ∙ r)

    -- a row is counted at a place inside of the file, and what stands behind a record is less
    pub rows_less : rows < length s
    rows_less = omega (arith, h.counted, facts.further, facts.fits)

    pub controls_less : controls < length s
    controls_less = omega (arith, h.counted, facts.further, facts.fits)

    pub record_less : length s - next < length s - at
    record_less = omega (arith, facts.further, facts.fits)

    -- the body of each kind is whole
    body_next : {k : ℕ} → kind ≡ k → next ≡ body + body_length k
    body_next {k} e = facts.next_place ∙ rw (facts.body_place, e)

    body_fits : {k : ℕ} → kind ≡ k → body + body_length k ≤ length s
    body_fits e = rw (← body_next e) facts.fits

    pub row_less : kind ≡ 18 → length s - (body + body_length 18) < length s - at
    row_less e = rw (← body_next e) record_less

    pub row_fits : kind ≡ 18 → body + body_length 18 ≤ length s
    row_fits = body_fits

    pub control-fits : kind ≡ 17 → body + body_length 17 ≤ length s
    control-fits = body_fits

    its_head : (kind ≡ 18 → ⊥) → (kind ≡ 17 → ⊥) → IsHead kind
    its_head f m = head_else previous kind facts.in_order facts.no_end f m

    pub header-fits : (kind ≡ 18 → ⊥) → (kind ≡ 17 → ⊥) → body + body_length 16 ≤ length s
    unfolding body_length
    header-fits f m =
        let same = head-fields (its_head f m) in
        rw (head-fields basic_head) (rw same at (body_fits refl))

    turned : {m : memory.Table} → with_record held (record_of kind (drop body s)) ≡ m → whole ≡ gathered_from m (from Table 20 s kind next)
    turned q =
        onwards r ∙ gathered-before held (record_of kind (drop body s)) (from Table 20 s kind next)
        ∙ ap (λ (m : memory.Table). gathered_from m (from Table 20 s kind next)) q

    pub row_turn : {tasks' deadlines' starts' stops' : List ℕ} → kind ≡ 18
        → tasks' ≡ placed most_frames tasks rows (row_read s body).task
        → deadlines' ≡ placed most_frames deadlines rows (row_read s body).deadline
        → starts' ≡ placed most_frames starts rows (row_read s body).start
        → stops' ≡ placed most_frames stops rows (row_read s body).stop
        → SoFar s whole kind (body + body_length 18) head controls (rows + 1) control_nodes control_starts control_stops tasks' deadlines' starts' stops'
    unfolding with_record with_row table_from row_read record_of
    row_turn k a b c d =
        record {
          inside = row_fits k;
          counted = omega (arith, h.counted, facts.further, body_next k);
          gathered = rw (← body_next k) (turned (rw (k, sym a, sym b, sym c, sym d)));
        }

    pub control_turn : {nodes' starts' stops' : List ℕ} → kind ≡ 17
        → nodes' ≡ placed most_nodes control_nodes controls (control_read s body).node
        → starts' ≡ placed most_nodes control_starts controls (control_read s body).start
        → stops' ≡ placed most_nodes control_stops controls (control_read s body).stop
        → SoFar s whole kind next head (controls + 1) rows nodes' starts' stops' tasks deadlines starts stops
    unfolding with_record with_control table_from control_read record_of
    control_turn k a b c =
        record {
          inside = facts.fits;
          counted = omega (arith, h.counted, facts.further);
          gathered = turned (rw (k, sym a, sym b, sym c));
        }

    pub header_turn : {head' : Header} → (kind ≡ 18 → ⊥) → (kind ≡ 17 → ⊥) → head' ≡ header_read s body
        → SoFar s whole kind next head' controls rows control_nodes control_starts control_stops tasks deadlines starts stops
    unfolding with_record with_header table_from header_read record_of
    header_turn n m e =
        let its : fields kind ≡ fields 16 = head-fields (its_head n m) ∙ sym (head-fields basic_head) in
        record {
          inside = facts.fits;
          counted = omega (arith, h.counted, facts.further);
          gathered = turned (rw (ne_eqb kind 18 n, ne_eqb kind 17 m, its, sym e));
        }

-- ---- the end of reading

module _ (s : List ℕ) (g : Gathered) {tasks₀ deadlines₀ starts₀ stops₀ : List ℕ}
    (control_nodes control_starts control_stops tasks deadlines starts stops : List ℕ)
    (zeros : (tasks₀ ≡ replicate most_frames 0) × ((deadlines₀ ≡ replicate most_frames 0) × ((starts₀ ≡ replicate most_frames 0) × (stops₀ ≡ replicate most_frames 0))))
    (gathered : reported g control_nodes control_starts control_stops tasks deadlines starts stops
    ≡ gathered_from (table_from empty_table.header 0 0 (replicate most_nodes 0) (replicate most_nodes 0) (replicate most_nodes 0) tasks₀ deadlines₀ starts₀ stops₀) (records table_follows 20 s)) where
  told : reported g control_nodes control_starts control_stops tasks deadlines starts stops ≡ reading_of (records table_follows 20 s)
  unfolding table_from empty_table lay_out no_table
  told = rw (zeros.0, zeros.1.0, zeros.1.1.0, zeros.1.1.1) at gathered ∙ file-gathered s

  pub read_whole : g.outcome ≡ Whole
      → reading Whole (table_from g.header g.controls g.rows control_nodes control_starts control_stops tasks deadlines starts stops) ≡ reading_of (records table_follows 20 s)
  unfolding reported
  read_whole e = rw e at told

  pub read-broken : {p : Offset} {h : Heading} → g.outcome ≡ Broken p → h ≡ heading_of empty_table
      → read_with (record { outcome = Broken p; heading = h }) (replicate most_frames 0) (replicate most_frames 0) (replicate most_frames 0) (replicate most_frames 0)
      ≡ reading_of (records table_follows 20 s)
  unfolding reported empty_table lay_out no_table
  read-broken e q = rw q (rw e at told)
