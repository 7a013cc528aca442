-- Stores one behind the other are the store of what they make together: numbers a record, rows of one length, a table.
use mathlib.Core.Path.{◌≡◌, refl, sym, ap, ◌∙◌}
use mathlib.Core.List.{List, [], ◌∷◌, ◌++◌, map, append_assoc}
use native.Mathlib.Nat.{zero-add, mod-eq_of_lt}
use native.Mathlib.Omega.{arith}
use lib.ListN.{length, length-append}
use lib.Seq.{sets}
use Prim.Native.Nat.{ℕ, ◌+◌, ◌*◌, ◌<◌}
use Rattle.laws.specs.Lists.{tab, joined}
use Rattle.laws.specs.Numbers.{bytes}
use Rattle.laws.proofs.Laid.{sets_append}
use Rattle.laws.proofs.Lists.{joined_snoc, tab_more, map_snoc, length-tab}
use Rattle.laws.proofs.Little.{length-bytes}
use Rattle.rules.specs.Records.{Field, width, kinds, fields, body_length}
use Rattle.rules.specs.Table.{DataRow, encoded, record_bytes, header_bytes, control_bytes, data_bytes, record_length}
use Rattle.rules.specs.Frames.{ControlRow}
use Rattle.rules.proofs.Heads.{IsHead, head-fields}
use Rattle.rules.proofs.TableLength.{length-rows, length-controls, length-datas}
use Rattle.table.specs.Rows.{head_in, table_in}

-- two lists laid one behind the other, the second at a place that is known to be the next
sets_next : {A : Type 0} (l : List A) (i : ℕ) {j : ℕ} (xs ys : List A) → j ≡ i + length xs → sets (sets l i xs) j ys ≡ sets l i (xs ++ ys)
sets_next l i xs ys e = rw e (sym (sets_append l i xs ys))

-- ---- a record, number by number

-- the numbers of a body stored one after the other, from the field on that stands `offset` bytes behind `body`
abbrev stored_from : List Field → List ℕ → ℕ → ℕ → List ℕ → List ℕ
stored_from [] xs body offset b = b
stored_from (f ∷ fs) [] body offset b = b
stored_from (f ∷ fs) (x ∷ xs) body offset b = stored_from fs xs body (offset + width f) (sets b (body + offset) (bytes (width f) x))

stored-from : (fs : List Field) (xs : List ℕ) (body offset : ℕ) (b : List ℕ)
    → stored_from fs xs body offset b ≡ sets b (body + offset) (encoded fs xs)
stored-from [] xs body offset b = refl
stored-from (f ∷ fs) [] body offset b = refl
stored-from (f ∷ fs) (x ∷ xs) body offset b =
    let long = length-bytes (width f) x in
    stored-from fs xs body (offset + width f) (sets b (body + offset) (bytes (width f) x))
    ∙ sets_next b (body + offset) (bytes (width f) x) (encoded fs xs) (omega arith)

-- the kind, and behind it the body
pub one_byte : (x : ℕ) → x < 256 → bytes 1 x ≡ x ∷ []
one_byte x h = ap (λ (b : ℕ). b ∷ []) (mod-eq_of_lt h)

pub fields-put : (kind : ℕ) (fs : List Field) (xs : List ℕ) (at : ℕ) (b : List ℕ) → bytes 1 kind ≡ kind ∷ []
    → stored_from fs xs (at + 1) 0 (sets b at (bytes 1 kind)) ≡ sets b at (kind ∷ encoded fs xs)
fields-put kind fs xs at b e =
    ap (λ (first : List ℕ). stored_from fs xs (at + 1) 0 (sets b at first)) e
    ∙ stored-from fs xs (at + 1) 0 (sets b at (kind ∷ []))
    ∙ sets_next b at (kind ∷ []) (encoded fs xs) (omega arith)

pub record_put : (kind : ℕ) (xs : List ℕ) (at : ℕ) (b : List ℕ) → bytes 1 kind ≡ kind ∷ []
    → stored_from (fields kind) xs (at + 1) 0 (sets b at (bytes 1 kind)) ≡ sets b at (record_bytes kind xs)
unfolding record_bytes
record_put kind = fields-put kind (fields kind)

-- ---- rows of one length

module _ {R : Type 0} (bytes_of : R → List ℕ) (wide : ℕ) (widths : (r : R) → length (bytes_of r) ≡ wide) where
  module _ (row : ℕ → R) where
    abbrev first : ℕ → List ℕ
    first n = joined (map bytes_of (tab row 0 n))

    first-long : (n : ℕ) → length (first n) ≡ wide * n
    first-long n = length-rows bytes_of wide widths (tab row 0 n) ∙ ap (λ (k : ℕ). wide * k) (length-tab row 0 n)

    rows_more : (n : ℕ) → first (n + 1) ≡ first n ++ bytes_of (row n)
    rows_more n =
        ap (λ (l : List R). joined (map bytes_of l)) (tab_more row 0 n)
        ∙ ap joined (map_snoc bytes_of (tab row 0 n) (row (0 + n)))
        ∙ joined_snoc (map bytes_of (tab row 0 n)) (bytes_of (row (0 + n)))
        ∙ ap (λ (k : ℕ). first n ++ bytes_of (row k)) (zero-add n)

    one_more : (l : List ℕ) (at n : ℕ) {b b' : List ℕ} → b ≡ sets l at (first n) → b' ≡ sets b (at + wide * n) (bytes_of (row n))
        → b' ≡ sets l at (first (n + 1))
    one_more l at n e f =
        f ∙ rw e (sets_next l at (first n) (bytes_of (row n)) (ap (λ (x : ℕ). at + x) (sym (first-long n)))) ∙ ap (sets l at) (sym (rows_more n))

-- one row more of each kind
pub control_more : (row : ℕ → ControlRow) (l : List ℕ) (at n : ℕ) {b b' : List ℕ} → b ≡ sets l at (joined (map control_bytes (tab row 0 n)))
    → b' ≡ sets b (at + record_length 17 * n) (control_bytes (row n)) → b' ≡ sets l at (joined (map control_bytes (tab row 0 (n + 1))))
unfolding control_bytes record_bytes record_length body_length fields kinds
control_more row = one_more control_bytes (record_length 17) (λ r. refl) row

pub data_more : (row : ℕ → DataRow) (l : List ℕ) (at n : ℕ) {b b' : List ℕ} → b ≡ sets l at (joined (map data_bytes (tab row 0 n)))
    → b' ≡ sets b (at + record_length 18 * n) (data_bytes (row n)) → b' ≡ sets l at (joined (map data_bytes (tab row 0 (n + 1))))
unfolding data_bytes record_bytes record_length body_length fields kinds
data_more row = one_more data_bytes (record_length 18) (λ r. refl) row

-- ---- the whole table

-- four lists laid one behind the other
glued : (b H C D E : List ℕ) {b₁ b₂ b₃ b₄ : List ℕ} → b₁ ≡ sets b 0 H → b₂ ≡ sets b₁ (length H) C → b₃ ≡ sets b₂ (length H + length C) D
    → b₄ ≡ sets b₃ (length H + length C + length D) E → b₄ ≡ sets b 0 (H ++ (C ++ (D ++ E)))
glued b H C D E p q r s =
    let c : length H + length C ≡ 0 + length (H ++ C) = rw (length-append H C) (omega arith) in
    let d : length H + length C + length D ≡ 0 + length ((H ++ C) ++ D) = rw (length-append (H ++ C) D, length-append H C) (omega arith) in
    rw (s, r, q, p, sets_next b 0 H C (sym (zero-add (length H))), sets_next b 0 (H ++ C) D c, sets_next b 0 ((H ++ C) ++ D) E d)
    (ap (sets b 0) (append_assoc (H ++ C) D E ∙ append_assoc H C (D ++ E)))

pub length-head : (head period controls datas : ℕ) → length (head_in head period controls datas) ≡ record_length 16
unfolding head_in record_length body_length fields kinds
length-head head period controls datas = refl

-- where it is the kind of a head, the rules' words are the same
pub head_in_lem : {head : ℕ} → IsHead head → (period controls datas : ℕ) → head_in head period controls datas ≡ header_bytes head period controls datas
unfolding head_in header_bytes record_bytes
head_in_lem h period controls datas = rw (head-fields h)

pub table-put : (b : List ℕ) (head period controls rows : ℕ) (control : ℕ → ControlRow) (row : ℕ → DataRow) {b₁ b₂ b₃ b₄ : List ℕ}
    → b₁ ≡ sets b 0 (head_in head period controls rows) → b₂ ≡ sets b₁ (record_length 16) (joined (map control_bytes (tab control 0 controls)))
    → b₃ ≡ sets b₂ (record_length 16 + record_length 17 * controls) (joined (map data_bytes (tab row 0 rows)))
    → b₄ ≡ sets b₃ (record_length 16 + record_length 17 * controls + record_length 18 * rows) (0 ∷ [])
    → b₄ ≡ sets b 0 (table_in head period (tab control 0 controls) (tab row 0 rows) controls rows)
unfolding table_in
table-put b head period controls rows control row {b₂ = b₂} {b₃ = b₃} p q r s =
    let h = length-head head period controls rows in
    let c : length (joined (map control_bytes (tab control 0 controls))) ≡ record_length 17 * controls
    = length-controls (tab control 0 controls) ∙ ap (λ (k : ℕ). record_length 17 * k) (length-tab control 0 controls) in
    let d : length (joined (map data_bytes (tab row 0 rows))) ≡ record_length 18 * rows
    = length-datas (tab row 0 rows) ∙ ap (λ (k : ℕ). record_length 18 * k) (length-tab row 0 rows) in
    glued b (head_in head period controls rows) (joined (map control_bytes (tab control 0 controls))) (joined (map data_bytes (tab row 0 rows))) (0 ∷ [])
    {b₂ = b₂} {b₃ = b₃} p (rw h q) (rw (h, c) r) (rw (h, c, d) s)
