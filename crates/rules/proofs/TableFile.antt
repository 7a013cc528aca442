-- TableFile: the bytes of a table that was read. A file that reads as records is these records written again, and every number read fits its
-- field; by induction on the records. So where the head counts the rows, the file is the table of its rows.
use mathlib.Core.Path.{◌≡◌, refl, sym, ap, ap₂, ◌∙◌, subst}
use mathlib.Core.Bool.{true}
use mathlib.Core.List.{List, [], ◌∷◌, ◌++◌, map, append_assoc}
use mathlib.Core.Logic.{◌⊎◌, inl, inr}
use native.Mathlib.Nat.{eq-or-lt_of_le}
use native.Mathlib.Omega.{arith}
use borrow.Author.Tests.{ne_eqb}
use lib.ListN.{length, get_or, take, drop, take-append-drop, length-drop}
use lib.Seq.{length-take-le}
use Prim.Native.Nat.{ℕ, suc, ◌^◌, ◌≤◌, ◌<◌}
use Rattle.laws.specs.Res.{ok}
use Rattle.laws.specs.Lists.{joined}
use Rattle.laws.specs.Numbers.{number, bytes}
use Rattle.laws.proofs.Lists.{true-false}
use Rattle.laws.proofs.Tests.{by_or, by_and, by_eq, by_le}
use Rattle.laws.proofs.Little.{Bytes, bytes_left, bytes_right, bytes_take, bytes_drop, bytes-number, number_bound}
use Rattle.laws.proofs.Members.{All, empty, also}
use Rattle.rules.specs.Records.{Field, width, fields, widths, body_length, kinds, head_fields, head_kind, is_head, Rec, decoded, record_of, records, table_follows}
use Rattle.rules.specs.Plan.{nth, is_kind, zero_record, things}
use Rattle.rules.specs.Frames.{ControlRow}
use Rattle.rules.specs.Obeys.{AreRecords, the_end, one_more}
use Rattle.rules.specs.Table.{encoded, record_bytes, DataRow, header_bytes, control_bytes, data_bytes, table_of_rows}
use Rattle.rules.specs.Checker.{control_row_of, data_row_of, head_of}
use Rattle.rules.proofs.RecordsExact.{records_exact}
use Rattle.rules.proofs.Heads.{IsHead, basic_head, consumers_head, head_means, head-fields, no-row, head_read}
use Rattle.rules.proofs.TableBytes.{Fit, fit_none, fit, ControlFits, DataFits}

-- ---- one body

-- the numbers of a body, written again
encoded-decoded : (fs : List Field) (body : List ℕ) → Bytes body → length body ≡ widths fs → encoded fs (decoded fs body) ≡ body
encoded-decoded [] [] h e = refl
encoded-decoded [] (b ∷ body) h e = absurd (omega arith)
encoded-decoded (f ∷ fs) body h e =
    let w = width f in
    let long : length (take w body) ≡ w = length-take-le w body (omega arith) in
    let first : bytes w (number (take w body)) ≡ take w body = rw long at (bytes-number (take w body) (bytes_take w body h)) in
    let left : length (drop w body) ≡ widths fs = length-drop w body ∙ omega arith in
    rw (first, encoded-decoded fs (drop w body) (bytes_drop w body h) left) (take-append-drop w body)

decoded-fit : (fs : List Field) (body : List ℕ) → Bytes body → length body ≡ widths fs → Fit fs (decoded fs body)
decoded-fit [] body h e = fit_none
decoded-fit (f ∷ fs) body h e =
    let w = width f in
    let long : length (take w body) ≡ w = length-take-le w body (omega arith) in
    let left : length (drop w body) ≡ widths fs = length-drop w body ∙ omega arith in
    let small : number (take w body) < 256 ^ w = rw long at (number_bound (take w body) (bytes_take w body h)) in
    fit small (decoded-fit fs (drop w body) (bytes_drop w body h) left)

module _ (kind : ℕ) (body : List ℕ) (h : Bytes body) (long : length body ≡ body_length kind) where
  pub body_written : record_bytes kind (decoded (fields kind) body) ≡ kind ∷ body
  unfolding record_bytes body_length
  body_written = ap (λ (l : List ℕ). kind ∷ l) (encoded-decoded (fields kind) body h long)

  pub body_fits : Fit (fields kind) (decoded (fields kind) body)
  unfolding body_length
  body_fits = decoded-fit (fields kind) body h long

module _ (body : List ℕ) (h : Bytes body) where
  control-written : length body ≡ body_length 17 → control_bytes (control_row_of (record_of 17 body).numbers) ≡ 17 ∷ body
  unfolding control_bytes control_row_of record_of fields kinds
  control-written long = body_written 17 body h long

  data_written : length body ≡ body_length 18 → data_bytes (data_row_of (record_of 18 body).numbers) ≡ 18 ∷ body
  unfolding data_bytes data_row_of record_of fields kinds
  data_written long = body_written 18 body h long

control-numbers : {a b c : ℕ} → Fit (fields 17) (a ∷ b ∷ c ∷ []) → (a < 256) × (b < 4294967296) × (c < 4294967296)
unfolding fields kinds
control-numbers (fit x (fit y (fit z fit_none))) = (x, y, z)

data-numbers : {a b c d : ℕ} → Fit (fields 18) (a ∷ b ∷ c ∷ d ∷ []) → (a < 256) × (b < 4294967296) × (c < 4294967296) × (d < 4294967296)
unfolding fields kinds
data-numbers (fit x (fit y (fit z (fit w fit_none)))) = (x, y, z, w)

head-numbers : {a b c : ℕ} → Fit head_fields (a ∷ b ∷ c ∷ []) → (a < 4294967296) × (b < 256) × (c < 65536)
head-numbers (fit x (fit y (fit z fit_none))) = (x, y, z)

module _ (body : List ℕ) (h : Bytes body) where
  control-fits : length body ≡ body_length 17 → ControlFits (control_row_of (record_of 17 body).numbers)
  unfolding control_row_of record_of fields kinds
  control-fits long = let n = control-numbers (body_fits 17 body h long) in record { node = n.0; start = n.1; stop = n.2 }

  data_fits : length body ≡ body_length 18 → DataFits (data_row_of (record_of 18 body).numbers)
  unfolding data_row_of record_of fields kinds
  data_fits long =
      let n = data-numbers (body_fits 18 body h long) in
      record { task = n.0; deadline = n.1; start = n.2; stop = n.3 }

-- ---- the rows

abbrev pub control_of : List Rec → List ControlRow
control_of rs = map control_row_of (things 17 rs)

abbrev pub datas_of : List Rec → List DataRow
datas_of rs = map data_row_of (things 18 rs)

-- bytes that are data rows and the end
record DatasAre (file : List ℕ) (rs : List Rec) : Type 0 where
  none : things 17 rs ≡ []
  is : file ≡ joined (map data_bytes (datas_of rs)) ++ (0 ∷ [])
  fits : All DataFits (datas_of rs)

-- bytes that are control rows, data rows and the end
record RowsAre (file : List ℕ) (rs : List Rec) : Type 0 where
  is : file ≡ joined (map control_bytes (control_of rs)) ++ (joined (map data_bytes (datas_of rs)) ++ (0 ∷ []))
  control_fits : All ControlFits (control_of rs)
  fits : All DataFits (datas_of rs)

-- the kinds of rows
data IsRow : ℕ → Type 0 where
  a_control : IsRow 17
  a_data : IsRow 18

-- behind the head or a row stands a row, behind a row none of a lower kind
abbrev Follows : ℕ → ℕ → Type 0
Follows previous kind = (IsHead previous ⊎ (previous ≤ kind)) × IsRow kind

row-kind : (previous kind : ℕ) → (previous ≡ 0 → ⊥) → table_follows previous kind ≡ true → (kind ≡ 0 → ⊥) → Follows previous kind
unfolding table_follows
row-kind previous kind h e z =
    let rising = by_or (head_means previous) (by_le previous kind) in
    by_kind ((by_or (by_eq kind 0) (by_and (by_le 17 kind) (by_and rising (by_le kind 18)))).says (rw (ne_eqb previous 0 h) at e))
  where
    of_two : kind ≤ 18 → (17 ≡ kind) ⊎ (17 < kind) → IsRow kind
    of_two b (inl q) = subst IsRow q a_control
    of_two b (inr q) = let e : 18 ≡ kind = omega arith in subst IsRow e a_data

    by_kind : (kind ≡ 0) ⊎ ((17 ≤ kind) × ((IsHead previous ⊎ (previous ≤ kind)) × (kind ≤ 18))) → Follows previous kind
    by_kind (inl q) = absurd (z q)
    by_kind (inr q) = (q.1.0, of_two q.1.1 (eq-or-lt_of_le q.0))

-- behind a data row stand data rows alone
data_kind : {previous kind : ℕ} → previous ≡ 18 → Follows previous kind → kind ≡ 18
data_kind p (inl h, r) = absurd (no-data h p)
  where
    no-data : {head : ℕ} → IsHead head → head ≡ 18 → ⊥
    no-data basic_head e = absurd (omega (arith, e))
    no-data consumers_head e = absurd (omega (arith, e))
data_kind p (inr w, a_control) = absurd (omega (arith, p, w))
data_kind p (inr w, a_data) = refl

row-above : {kind : ℕ} → IsRow kind → kind ≡ 0 → ⊥
row-above a_control e = absurd (omega (arith, e))
row-above a_data e = absurd (omega (arith, e))

-- a record in front of others
module _ (kind : ℕ) (body rest : List ℕ) {file : List ℕ} (e : file ≡ kind ∷ body ++ rest) (h : Bytes file) where
  behind-kind : Bytes (body ++ rest)
  behind-kind i = subst (λ (l : List ℕ). Bytes l) e h (suc i)

  pub body_bytes : Bytes body
  body_bytes = bytes_left body rest behind-kind

  pub rest-bytes : Bytes rest
  rest-bytes = bytes_right body rest behind-kind

-- a row in front of the rows of its kind, and of what follows them
row_first : {file rest : List ℕ} (kind : ℕ) (body row rows more : List ℕ) → file ≡ kind ∷ body ++ rest → rest ≡ rows ++ more → row ≡ kind ∷ body
    → file ≡ (row ++ rows) ++ more
row_first kind body row rows more e r w =
    e ∙ ap (λ (l : List ℕ). kind ∷ body ++ l) r ∙ ap (λ (l : List ℕ). l ++ (rows ++ more)) (sym w) ∙ sym (append_assoc row rows more)

module _ (body rest : List ℕ) {file : List ℕ} (rs : List Rec) where
  data_step : length body ≡ body_length 18 → file ≡ 18 ∷ body ++ rest → Bytes file → DatasAre rest rs → DatasAre file (record_of 18 body ∷ rs)
  unfolding things is_kind record_of
  data_step long e h r =
      let own = body_bytes 18 body rest e h in
      record {
        none = r.none;
        is =
            row_first 18 body (data_bytes (data_row_of (record_of 18 body).numbers)) (joined (map data_bytes (datas_of rs))) (0 ∷ []) e r.is
            (data_written body own long);
        fits = also (data_fits body own long) r.fits;
      }

  control-step : length body ≡ body_length 17 → file ≡ 17 ∷ body ++ rest → Bytes file → RowsAre rest rs → RowsAre file (record_of 17 body ∷ rs)
  unfolding things is_kind record_of
  control-step long e h r =
      let own = body_bytes 17 body rest e h in
      record {
        is =
            row_first 17 body (control_bytes (control_row_of (record_of 17 body).numbers)) (joined (map control_bytes (control_of rs)))
            (joined (map data_bytes (datas_of rs)) ++ (0 ∷ [])) e r.is (control-written body own long);
        control_fits = also (control-fits body own long) r.control_fits;
        fits = r.fits;
      }

-- no control row, and then data rows
data_first : {file : List ℕ} {rs : List Rec} → DatasAre file rs → RowsAre file rs
data_first d = record { is = rw d.none d.is; control_fits = rw d.none empty; fits = d.fits }

datas-step : {kind : ℕ} → IsRow kind → kind ≡ 18 → (body rest : List ℕ) {file : List ℕ} (rs : List Rec) → length body ≡ body_length kind
    → file ≡ kind ∷ body ++ rest → Bytes file → DatasAre rest rs → DatasAre file (record_of kind body ∷ rs)
datas-step a_control w body rest rs b e h r = absurd (omega (arith, w))
datas-step a_data w body rest rs b e h r = data_step body rest rs b e h r

datas_are : {previous : ℕ} {file : List ℕ} {rs : List Rec} → AreRecords table_follows previous file rs → previous ≡ 18 → Bytes file → DatasAre file rs
unfolding things
datas_are (the_end s e) p h = record { none = refl; is = e; fits = empty }
datas_are (one_more {previous} {kind} {rest = rest} {rs = rs} body s z b e r) p h =
    let k = row-kind previous kind (λ q. omega (arith, p, q)) s.is_next z in
    let w = data_kind p k in
    datas-step k.1 w body rest rs b e h (datas_are r w (rest-bytes kind body rest e h))

rows_step : {kind : ℕ} → IsRow kind → (body rest : List ℕ) {file : List ℕ} (rs : List Rec) → length body ≡ body_length kind
    → file ≡ kind ∷ body ++ rest → Bytes file → RowsAre rest rs → (kind ≡ 18 → DatasAre rest rs) → RowsAre file (record_of kind body ∷ rs)
rows_step a_control body rest rs b e h r d = control-step body rest rs b e h r
rows_step a_data body rest rs b e h r d = data_first (data_step body rest rs b e h (d refl))

rows_are : {previous : ℕ} {file : List ℕ} {rs : List Rec} → AreRecords table_follows previous file rs → (previous ≡ 0 → ⊥) → Bytes file → RowsAre file rs
unfolding things
rows_are (the_end s e) p h = record { is = e; control_fits = empty; fits = empty }
rows_are (one_more {previous} {kind} {rest = rest} {rs = rs} body s z b e r) p h =
    let k = row-kind previous kind p s.is_next z in
    let behind : Bytes rest = rest-bytes kind body rest e h in
    rows_step k.1 body rest rs b e h (rows_are r (row-above k.1) behind) (λ w. datas_are r w behind)

-- ---- the whole file

-- the kind of the record in front
abbrev pub kind_of_head : List Rec → ℕ
kind_of_head rs = (get_or rs 0 zero_record).kind

abbrev pub period_of_head : List Rec → ℕ
period_of_head rs = nth (head_of rs) 0

abbrev pub controls_of_head : List Rec → ℕ
controls_of_head rs = nth (head_of rs) 1

abbrev pub datas_of_head : List Rec → ℕ
datas_of_head rs = nth (head_of rs) 2

pub record FileIs (file : List ℕ) (rs : List Rec) : Type 0 where
  pub is_head : IsHead (kind_of_head rs)
  pub is :
      file ≡ header_bytes (kind_of_head rs) (period_of_head rs) (controls_of_head rs) (datas_of_head rs)
      ++ (joined (map control_bytes (control_of rs)) ++ (joined (map data_bytes (datas_of rs)) ++ (0 ∷ [])))
  pub period : period_of_head rs < 4294967296
  pub controls : controls_of_head rs < 256
  pub datas : datas_of_head rs < 65536
  pub control_fits : All ControlFits (control_of rs)
  pub rows_fit : All DataFits (datas_of rs)

-- a head in front of the rows is none of them
module _ {kind : ℕ} (head : IsHead kind) (body : List ℕ) (rs : List Rec) where
  same-control : control_of (record_of kind body ∷ rs) ≡ control_of rs
  unfolding things is_kind record_of
  same-control = rw (no-row head).0

  same-datas : datas_of (record_of kind body ∷ rs) ≡ datas_of rs
  unfolding things is_kind record_of
  same-datas = rw (no-row head).1

  its_numbers : head_of (record_of kind body ∷ rs) ≡ decoded head_fields body
  unfolding record_of
  its_numbers = head_read head (decoded (fields kind) body) rs ∙ rw (head-fields head)

  head_step : (rest : List ℕ) {file : List ℕ} → length body ≡ body_length kind → file ≡ kind ∷ body ++ rest → Bytes file → RowsAre rest rs
      → FileIs file (record_of kind body ∷ rs)
  unfolding record_of header_bytes
  head_step rest long e h r =
      let own = body_bytes kind body rest e h in
      let n = head-numbers (rw (head-fields head) at (body_fits kind body own long)) in
      let again : record_bytes kind (decoded head_fields body) ≡ kind ∷ body = rw (head-fields head) at (body_written kind body own long) in
      record {
        is_head = head;
        is =
            rw (same-control, same-datas, its_numbers)
            (e ∙ ap (λ (l : List ℕ). kind ∷ body ++ l) r.is
            ∙ ap (λ (l : List ℕ). l ++ (joined (map control_bytes (control_of rs)) ++ (joined (map data_bytes (datas_of rs)) ++ (0 ∷ [])))) (sym again));
        period = rw its_numbers n.0;
        controls = rw its_numbers n.1;
        datas = rw its_numbers n.2;
        control_fits = rw same-control r.control_fits;
        rows_fit = rw same-datas r.fits;
      }

file-is : {file : List ℕ} {rs : List Rec} → AreRecords table_follows 0 file rs → Bytes file → FileIs file rs
unfolding table_follows is_head head_kind
file-is (the_end s e) h = true-false (sym s.is_next)
file-is (one_more {kind = kind} {rest = rest} {rs = rs} body s z b e r) h =
    head_step ((head_means kind).says s.is_next) body rs rest b e h (rows_are r z (rest-bytes kind body rest e h))

pub table-file : (file : List ℕ) (rs : List Rec) → records table_follows 20 file ≡ ok rs → Bytes file → FileIs file rs
table-file file rs e h = file-is ((records_exact table_follows 20 file rs).0 e) h

-- where the head counts the rows
module _ {file : List ℕ} {rs : List Rec} (f : FileIs file rs) (controls : controls_of_head rs ≡ length (control_of rs))
    (datas : datas_of_head rs ≡ length (datas_of rs)) where
  pub file-rows : file ≡ table_of_rows (kind_of_head rs) (period_of_head rs) (control_of rs) (datas_of rs)
  unfolding table_of_rows
  file-rows =
      f.is
      ∙ ap₂ (λ (n m : ℕ). header_bytes (kind_of_head rs) (period_of_head rs) n m
      ++ (joined (map control_bytes (control_of rs)) ++ (joined (map data_bytes (datas_of rs)) ++ (0 ∷ [])))) controls datas
