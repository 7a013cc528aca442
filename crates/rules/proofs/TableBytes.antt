-- TableBytes: reading back what was written. Records written with numbers that fit their fields are read as these records; a table
-- written by `table_of_rows` is read as the header, the control rows and the data rows that it was written from, and so is one written by
-- `table_bytes`, which is the same of the rows placed.
use mathlib.Core.Path.{◌≡◌, refl, ap, ◌∙◌, subst}
use mathlib.Core.Bool.{Bool, true, false, ◌&&◌, ◌||◌}
use mathlib.Core.List.{List, [], ◌∷◌, ◌++◌, map, append_assoc, append-nil}
use native.Mathlib.Omega.{arith}
use lib.Dec.{eqb, leb}
use lib.ListN.{length, length-append, length-map}
use lib.Seq.{take_at, drop_at}
use Prim.Native.Nat.{ℕ, ◌<◌, ◌^◌}
use Rattle.laws.specs.Res.{ok}
use Rattle.laws.specs.Lists.{joined, keep}
use Rattle.laws.specs.Numbers.{bytes}
use Rattle.laws.proofs.Little.{length-bytes, number-bytes}
use Rattle.laws.proofs.Members.{All, empty, also, all_weaker, keep_all, keep-nothing}
use Rattle.laws.proofs.Lists.{keep_append}
use Rattle.rules.specs.Records.{Field, width, fields, widths, body_length, kinds, known, head_kind, is_head, Rec, decoded, record_of, records, table_follows}
use Rattle.rules.specs.Plan.{is_kind, numbers_of, things}
use Rattle.rules.specs.Frames.{ControlRow, Layout}
use Rattle.rules.proofs.RecordsExact.{records_exact}
use Rattle.rules.proofs.Heads.{IsHead, head-fields, head_first, not_the_end, behind-head, no-row, head_read}
use Rattle.rules.specs.Obeys.{MayStand, AreRecords, the_end, one_more}
use Rattle.rules.specs.Table.{encoded, record_bytes, DataRow, PlacedRow, data_row, header_bytes, control_bytes, data_bytes, table_of_rows, table_bytes}
use Rattle.rules.specs.Checker.{row_of, TableRead, table_of, control_row_of, data_row_of}

-- every number fits its field
pub data Fit : List Field → List ℕ → Type 0 where
  fit_none : Fit [] []
  fit : {f : Field} {fs : List Field} {x : ℕ} {xs : List ℕ} → x < 256 ^ width f → Fit fs xs → Fit (f ∷ fs) (x ∷ xs)

pub encoded-length : {fs : List Field} {xs : List ℕ} → Fit fs xs → length (encoded fs xs) ≡ widths fs
encoded-length fit_none = refl
encoded-length (fit {f} {fs} {x} {xs} h r) =
    length-append (bytes (width f) x) (encoded fs xs) ∙ rw (length-bytes (width f) x, encoded-length r)

pub decoded-encoded : {fs : List Field} {xs : List ℕ} → Fit fs xs → decoded fs (encoded fs xs) ≡ xs
decoded-encoded fit_none = refl
decoded-encoded (fit {f} {fs} {x} {xs} h r) =
    let w = width f in
    let long = length-bytes w x in
    rw (take_at (bytes w x) (encoded fs xs) w long, drop_at (bytes w x) (encoded fs xs) w long, number-bytes w x h, decoded-encoded r)

-- a record written is a record
module _ (follows : ℕ → ℕ → Bool) where
  pub written : {previous kind : ℕ} {xs rest : List ℕ} {rs : List Rec} → MayStand follows previous kind → (kind ≡ 0 → ⊥)
      → Fit (fields kind) xs
      → AreRecords follows kind rest rs
      → AreRecords follows previous (record_bytes kind xs ++ rest) (record { kind = kind; numbers = xs } ∷ rs)
  unfolding record_bytes record_of body_length
  written {previous} {kind} {xs} {rest} {rs} s z f r =
      rw (decoded-encoded f) at (one_more (encoded (fields kind) xs) s z (encoded-length f) refl r)

-- rows of one kind, one after the other
module _ {A : Type 0} (kind : ℕ) (numbers_of : A → List ℕ) where
  abbrev pub rec_of : A → Rec
  rec_of x = record { kind = kind; numbers = numbers_of x }

  abbrev pub bytes_of : A → List ℕ
  bytes_of x = record_bytes kind (numbers_of x)

module _ (follows : ℕ → ℕ → Bool) {A : Type 0} (kind : ℕ) (numbers_of : A → List ℕ) (row : kind ≡ 0 → ⊥) (again : MayStand follows kind kind) where
  rows_more : {l : List A} {rest : List ℕ} {rs : List Rec} → All (λ x. Fit (fields kind) (numbers_of x)) l → AreRecords follows kind rest rs
      → AreRecords follows kind (joined (map (bytes_of kind numbers_of) l) ++ rest) (map (rec_of kind numbers_of) l ++ rs)
  rows_more empty r = r
  rows_more {rest = rest} (also {x} {l} f a) r =
      rw (append_assoc (bytes_of kind numbers_of x) (joined (map (bytes_of kind numbers_of) l)) rest) (written follows again row f (rows_more a r))

  pub rows_written : {previous : ℕ} {l : List A} {rest : List ℕ} {rs : List Rec} → MayStand follows previous kind
      → All (λ x. Fit (fields kind) (numbers_of x)) l → AreRecords follows previous rest rs → AreRecords follows kind rest rs
      → AreRecords follows previous (joined (map (bytes_of kind numbers_of) l) ++ rest) (map (rec_of kind numbers_of) l ++ rs)
  rows_written s empty p r = p
  rows_written {rest = rest} s (also {x} {l} f a) p r =
      rw (append_assoc (bytes_of kind numbers_of x) (joined (map (bytes_of kind numbers_of) l)) rest) (written follows s row f (rows_more a r))

-- ---- a table

abbrev pub control_numbers : ControlRow → List ℕ
control_numbers r = r.node ∷ r.start ∷ r.stop ∷ []

abbrev pub data_numbers : DataRow → List ℕ
data_numbers r = r.task ∷ r.deadline ∷ r.start ∷ r.stop ∷ []

abbrev control_rec : ControlRow → Rec
control_rec r = record { kind = 17; numbers = control_numbers r }

abbrev data_rec : DataRow → Rec
data_rec r = record { kind = 18; numbers = data_numbers r }

pub record ControlFits (r : ControlRow) : Type 0 where
  pub node : r.node < 256
  pub start : r.start < 4294967296
  pub stop : r.stop < 4294967296

pub record DataFits (r : DataRow) : Type 0 where
  pub task : r.task < 256
  pub deadline : r.deadline < 4294967296
  pub start : r.start < 4294967296
  pub stop : r.stop < 4294967296

-- the head is of a kind that there is, and every number of a table of these rows fits its field
pub record RowsFit (head period : ℕ) (control : List ControlRow) (rows : List DataRow) : Type 0 where
  pub is_head : IsHead head
  pub period_fits : period < 4294967296
  pub controls : length control < 256
  pub datas : length rows < 65536
  pub control_fits : All ControlFits control
  pub rows_fit : All DataFits rows

-- the rows of a kind among the rows of both
all-rows : {A : Type 0} (k kind : ℕ) (numbers_of : A → List ℕ) (b : Bool) → eqb kind k ≡ b → (l : List A)
    → All (λ r. is_kind k r ≡ b) (map (rec_of kind numbers_of) l)
unfolding is_kind
all-rows k kind numbers_of b e [] = empty
all-rows k kind numbers_of b e (x ∷ l) = also e (all-rows k kind numbers_of b e l)

controls_back : (l : List ControlRow) → map control_row_of (map numbers_of (map control_rec l)) ≡ l
unfolding control_row_of
controls_back [] = refl
controls_back (r ∷ l) = ap (λ (t : List ControlRow). r ∷ t) (controls_back l)

datas_back : (l : List DataRow) → map data_row_of (map numbers_of (map data_rec l)) ≡ l
unfolding data_row_of
datas_back [] = refl
datas_back (r ∷ l) = ap (λ (t : List DataRow). r ∷ t) (datas_back l)

kept_17 : (c : List ControlRow) (d : List DataRow) → keep (is_kind 17) (map control_rec c ++ (map data_rec d ++ [])) ≡ map control_rec c
kept_17 c d =
    rw (append-nil (map data_rec d)) (keep_append (is_kind 17) (map control_rec c) (map data_rec d)
    ∙ rw (keep_all (is_kind 17) (all-rows 17 17 control_numbers true refl c), keep-nothing (is_kind 17) (all-rows 17 18 data_numbers false refl d))
    (append-nil (map control_rec c)))

kept_18 : (c : List ControlRow) (d : List DataRow) → keep (is_kind 18) (map control_rec c ++ (map data_rec d ++ [])) ≡ map data_rec d
kept_18 c d =
    rw (append-nil (map data_rec d)) (keep_append (is_kind 18) (map control_rec c) (map data_rec d)
    ∙ rw (keep-nothing (is_kind 18) (all-rows 18 17 control_numbers false refl c), keep_all (is_kind 18) (all-rows 18 18 data_numbers true refl d)))

control-fit : (r : ControlRow) → ControlFits r → Fit (fields 17) (control_numbers r)
unfolding fields kinds
control-fit r h = fit h.node (fit h.start (fit h.stop fit_none))

data_fit : (r : DataRow) → DataFits r → Fit (fields 18) (data_numbers r)
unfolding fields kinds
data_fit r h = fit h.task (fit h.deadline (fit h.start (fit h.stop fit_none)))

stands : {previous kind : ℕ} → known kind ≡ true → table_follows previous kind ≡ true → MayStand table_follows previous kind
stands k f = record { is_known = k; is_next = f }

behind : {head kind : ℕ} → IsHead head → known kind ≡ true → (eqb kind 0 || (leb 17 kind && leb kind 18)) ≡ true → MayStand table_follows head kind
behind {kind = kind} h k f = stands k (behind-head h kind ∙ f)

-- a head that counts the rows, and the rows
module _ (head period : ℕ) (control : List ControlRow) (rows : List DataRow) where
  abbrev header_numbers : List ℕ
  header_numbers = period ∷ length control ∷ length rows ∷ []

  -- the records of the table
  abbrev pub rows_records : List Rec
  rows_records = record { kind = head; numbers = header_numbers } ∷ map control_rec control ++ (map data_rec rows ++ [])

  header-fit : RowsFit head period control rows → Fit (fields head) header_numbers
  header-fit h = rw (head-fields h.is_head) (fit h.period_fits (fit h.controls (fit h.datas fit_none)))

  data_written : {previous : ℕ} → MayStand table_follows previous 18 → MayStand table_follows previous 0 → RowsFit head period control rows
      → AreRecords table_follows previous (joined (map (bytes_of 18 data_numbers) rows) ++ (0 ∷ [])) (map data_rec rows ++ [])
  unfolding known kinds table_follows is_head head_kind
  data_written s e t =
      rows_written table_follows 18 data_numbers (omega arith) (stands refl refl) s (all_weaker data_fit t.rows_fit) (the_end e refl)
      (the_end (stands refl refl) refl)

  -- the table's bytes are its records
  pub rows-table-written : RowsFit head period control rows → AreRecords table_follows 0 (table_of_rows head period control rows) rows_records
  unfolding table_of_rows header_bytes control_bytes data_bytes known kinds table_follows is_head head_kind
  rows-table-written t =
      let h = t.is_head in
      written table_follows (head_first h) (not_the_end h) (header-fit t)
      (rows_written table_follows 17 control_numbers (omega arith) (stands refl refl)
      (behind h refl refl)
      (all_weaker control-fit t.control_fits)
      (data_written (behind h refl refl) (behind h refl refl) t)
      (data_written (stands refl refl) (stands refl refl) t))

  pub rows-table-reads : RowsFit head period control rows → records table_follows 20 (table_of_rows head period control rows) ≡ ok rows_records
  rows-table-reads t = (records_exact table_follows 20 (table_of_rows head period control rows) rows_records).1 (rows-table-written t)

  -- the table as it is read back
  abbrev pub rows_read : TableRead
  rows_read =
      record { period = period; controls = length control; datas = length rows; control = control; rows = map row_of rows }

  control_back : IsHead head → map control_row_of (things 17 rows_records) ≡ control
  unfolding things is_kind
  control_back h = rw ((no-row h).0, kept_17 control rows) (controls_back control)

  rows_back : IsHead head → map data_row_of (things 18 rows_records) ≡ rows
  unfolding things is_kind
  rows_back h = rw ((no-row h).1, kept_18 control rows) (datas_back rows)

  pub rows-table-read : IsHead head → table_of rows_records ≡ rows_read
  unfolding table_of
  rows-table-read h =
      rw (head_read h header_numbers (map control_rec control ++ (map data_rec rows ++ [])), control_back h, rows_back h)

-- ---- a table of placed rows, whose number is that of the rows placed

-- the same of such a table
pub record TableFits (l : Layout) (placed : List PlacedRow) : Type 0 where
  pub is_head : IsHead l.head
  pub period : l.period < 4294967296
  pub controls : length l.control < 256
  pub datas : length placed < 65536
  pub control : All ControlFits l.control
  pub rows : All DataFits (map (data_row l) placed)

module _ (l : Layout) (rows : List PlacedRow) where
  abbrev datas : List DataRow
  datas = map (data_row l) rows

  counted : length datas ≡ length rows
  counted = length-map rows (data_row l)

  fits-rows : TableFits l rows → RowsFit l.head l.period l.control datas
  fits-rows t =
      record { is_head = t.is_head; period_fits = t.period; controls = t.controls; datas = rw counted t.datas; control_fits = t.control; rows_fit = t.rows }

  bytes-rows : table_of_rows l.head l.period l.control datas ≡ table_bytes l rows
  unfolding table_of_rows table_bytes
  bytes-rows = rw counted

  -- the records of the table
  abbrev pub table_records : List Rec
  table_records = rows_records l.head l.period l.control datas

  -- the table's bytes are its records
  pub table-written : TableFits l rows → AreRecords table_follows 0 (table_bytes l rows) table_records
  table-written t =
      subst (λ (file : List ℕ). AreRecords table_follows 0 file table_records) bytes-rows
      (rows-table-written l.head l.period l.control datas (fits-rows t))

  pub table-reads : TableFits l rows → records table_follows 20 (table_bytes l rows) ≡ ok table_records
  table-reads t = (records_exact table_follows 20 (table_bytes l rows) table_records).1 (table-written t)

  -- the table as it is read back
  abbrev pub table_read : TableRead
  table_read =
      record {
        period = l.period;
        controls = length l.control;
        datas = length rows;
        control = l.control;
        rows = map row_of datas;
      }

  pub table-read : IsHead l.head → table_of table_records ≡ table_read
  table-read h = rows-table-read l.head l.period l.control datas h ∙ rw counted
