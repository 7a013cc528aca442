-- How long a table is: records of one kind have one length, so a table has the length that its numbers of rows give.
use mathlib.Core.Path.{◌≡◌, refl, sym, ap, ap₂, ◌∙◌}
use mathlib.Core.List.{List, [], ◌∷◌, ◌++◌, map}
use native.Mathlib.Nat.{mul-zero, mul-suc}
use native.Mathlib.Omega.{arith}
use lib.ListN.{length, length-append, length-map}
use Prim.Native.Nat.{ℕ, ◌+◌, ◌*◌, ◌≤◌}
use Rattle.laws.specs.Lists.{joined}
use Rattle.rules.specs.Limits.{most_nodes, most_frames}
use Rattle.rules.specs.Records.{kinds, fields, body_length}
use Rattle.rules.specs.Frames.{ControlRow, Layout}
use Rattle.rules.proofs.Heads.{IsHead, basic_head, consumers_head}
use Rattle.rules.specs.Table.{
  record_bytes,
  DataRow,
  PlacedRow,
  data_row,
  header_bytes,
  control_bytes,
  data_bytes,
  table_bytes,
  record_length,
  table_length,
  longest_table,
}

module _ {R : Type 0} (bytes_of : R → List ℕ) (wide : ℕ) (widths : (r : R) → length (bytes_of r) ≡ wide) where
  pub length-rows : (rs : List R) → length (joined (map bytes_of rs)) ≡ wide * length rs
  length-rows [] = sym (mul-zero wide)
  length-rows (r ∷ rs) =
      length-append (bytes_of r) (joined (map bytes_of rs)) ∙ ap₂ ◌+◌ (widths r) (length-rows rs)
      ∙ (let e : wide + wide * length rs ≡ wide * length rs + wide = omega arith in e ∙ sym (mul-suc wide (length rs)))

pub length-controls : (rs : List ControlRow) → length (joined (map control_bytes rs)) ≡ record_length 17 * length rs
unfolding control_bytes record_bytes record_length body_length fields kinds
length-controls = length-rows control_bytes (record_length 17) (λ r. refl)

pub length-datas : (rs : List DataRow) → length (joined (map data_bytes rs)) ≡ record_length 18 * length rs
unfolding data_bytes record_bytes record_length body_length fields kinds
length-datas = length-rows data_bytes (record_length 18) (λ r. refl)

-- heads of both kinds have one length
pub length-header : {head : ℕ} → IsHead head → (period controls datas : ℕ) → length (header_bytes head period controls datas) ≡ record_length 16
unfolding header_bytes record_bytes record_length body_length fields kinds
length-header basic_head period controls datas = refl
length-header consumers_head period controls datas = refl

length-end : 1 ≡ record_length 0
unfolding record_length body_length fields kinds
length-end = refl

pub table-length : (l : Layout) → IsHead l.head → (rows : List PlacedRow) → length (table_bytes l rows) ≡ table_length (length l.control) (length rows)
unfolding table_bytes table_length
table-length l head rows =
    let H = header_bytes l.head l.period (length l.control) (length rows) in
    let C = joined (map control_bytes l.control) in
    let D = joined (map data_bytes (map (data_row l) rows)) in
    let h : length (H ++ (C ++ (D ++ (0 ∷ [])))) ≡ length H + length (C ++ (D ++ (0 ∷ []))) = length-append H (C ++ (D ++ (0 ∷ []))) in
    let c : length (C ++ (D ++ (0 ∷ []))) ≡ length C + length (D ++ (0 ∷ [])) = length-append C (D ++ (0 ∷ [])) in
    let d : length (D ++ (0 ∷ [])) ≡ length D + record_length 0 = length-append D (0 ∷ []) ∙ ap (λ (n : ℕ). length D + n) length-end in
    let e : length D ≡ record_length 18 * length rows = length-datas (map (data_row l) rows) ∙ ap (λ (n : ℕ). record_length 18 * n) (length-map rows (data_row l)) in
    rw (h, c, d, e, length-header head l.period (length l.control) (length rows), length-controls l.control) (omega arith)

-- the number of document 02
pub longest_is : longest_table ≡ 14425
unfolding longest_table table_length record_length body_length fields kinds
longest_is = refl

-- with no more rows than there may be, no table is longer
pub length_most : (controls datas : ℕ) → controls ≤ most_nodes → datas ≤ most_frames → table_length controls datas ≤ longest_table
unfolding longest_table table_length record_length body_length fields kinds
length_most controls datas c d = omega arith
