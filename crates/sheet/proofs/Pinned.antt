-- Pinned: what is read from any text keeps the record rules. Each line that is taken leaves numbers that fit their fields, and no more rows than a
-- table that prints can have; so the table that is written reads as records, with the cycle and the rows that were read and a head that counts them.
use mathlib.Core.Path.{◌≡◌, refl, subst}
use mathlib.Core.Bool.{Bool, true, false, cond, ◌&&◌}
use mathlib.Core.List.{List, [], ◌∷◌, map}
use mathlib.Core.Option.{Option, none, some}
use native.Mathlib.Omega.{arith}
use borrow.Author.Tests.{leb-true, ltb-true}
use lib.Dec.{eqb, leb, ltb, lit<}
use lib.ListN.{length, get_or}
use Prim.Native.Nat.{ℕ, zero, suc, ◌≤◌, ◌<◌, zero-le}
use Rattle.laws.specs.Res.{ok}
use Rattle.laws.proofs.Lists.{both_right, length_snoc}
use Rattle.laws.proofs.Loops.{none-some, some_injective}
use Rattle.laws.proofs.Members.{All, empty, also, all_append}
use Rattle.rules.specs.Limits.{most_nodes, most_frames}
use Rattle.rules.specs.Records.{Rec, head_kind, records, table_follows}
use Rattle.rules.specs.Plan.{nth}
use Rattle.rules.specs.Frames.{ControlRow}
use Rattle.rules.specs.Table.{DataRow, record_bytes, header_bytes, table_of_rows}
use Rattle.rules.specs.Checker.{table_of, row_of, is_for_consumers}
use Rattle.rules.proofs.Heads.{head-of, edition-of}
use Rattle.rules.proofs.TableBytes.{ControlFits, DataFits, RowsFit, rows_records, rows-table-reads, rows-table-read}
use Rattle.text.specs.Lines.{lines_of, uncommented, words, whole_number}
use Rattle.std.specs.Prelude as code
use Rattle.sheet.specs.declared.Kind.{Kind}
use Rattle.sheet.specs.declared.Kind.TheVariants.{Refused, Cycle, Control, Data, Other}
use Rattle.sheet.specs.declared.Form.{Form}
use Rattle.sheet.specs.declared.Form.TheVariants as form
use Rattle.sheet.specs.Back.{
  kind_of,
  forms_of,
  up_to_most,
  number_in,
  number_missing,
  number_first,
  numbers_in,
  SoFar,
  nothing_yet,
  may_stand,
  with_numbers,
  taken_by,
  where_it_may,
  with_kind,
  with_words,
  with_line,
  Back,
  sheet,
  unreadable,
  goes_on,
  read_lines,
  read_sheet,
  table_read,
}

-- ---- the numbers of a line

up-to-most : (most n : ℕ) (w : code.Option ℕ) → up_to_most most w ≡ some n → n ≤ most
up-to-most most n code.None e = none-some e
up-to-most most n (code.Some m) e = go (leb m most) refl e
  where
    go : (t : Bool) → leb m most ≡ t → cond t (some m) none ≡ some n → n ≤ most
    go true q e = subst (λ (k : ℕ). k ≤ most) (some_injective e) (leb-true m most q)
    go false q e = none-some e

-- the number that is read by a form is at most what the form says
within_form : {f : Form} {most : ℕ} (w : List ℕ) (n : ℕ) → f ≡ form.Most most → number_in f w ≡ some n → n ≤ most
unfolding number_in
within_form {f} {most} w n q e = up-to-most most n (whole_number w) (subst (λ (f : Form). number_in f w ≡ some n) q e)

first-number : {C : Type 0} (o : Option ℕ) (p : Option (List ℕ)) (ns : List ℕ) → number_first o p ≡ some ns
    → ((n : ℕ) (ms : List ℕ) → o ≡ some n → p ≡ some ms → n ∷ ms ≡ ns → C) → C
first-number none p ns e k = none-some e
first-number (some n) none ns e k = none-some e
first-number (some n) (some ms) ns e k = k n ms refl refl (some_injective e)

-- the k-th number is at most what the k-th form says
pub number-within : (fs : List Form) (ws : List (List ℕ)) (ns : List ℕ) → numbers_in fs ws ≡ some ns → (k most : ℕ)
    → get_or fs k form.End ≡ form.Most most → nth ns k ≤ most
unfolding numbers_in
number-within [] [] ns e k most q = subst (λ (l : List ℕ). nth l k ≤ most) (some_injective e) zero-le
number-within [] (w ∷ ws) ns e k most q = none-some e
number-within (f ∷ fs) [] ns e zero most q =
    first-number (number_missing f) (numbers_in fs []) ns e (λ n ms a b is. none-some (subst (λ (f : Form). number_missing f ≡ some n) q a))
number-within (f ∷ fs) [] ns e (suc k) most q =
    first-number (number_missing f) (numbers_in fs []) ns e
    (λ n ms a b is. subst (λ (l : List ℕ). nth l (suc k) ≤ most) is (number-within fs [] ms b k most q))
number-within (f ∷ fs) (w ∷ ws) ns e zero most q =
    first-number (number_in f w) (numbers_in fs ws) ns e
    (λ n ms a b is. subst (λ (l : List ℕ). nth l zero ≤ most) is (within_form w n q a))
number-within (f ∷ fs) (w ∷ ws) ns e (suc k) most q =
    first-number (number_in f w) (numbers_in fs ws) ns e
    (λ n ms a b is. subst (λ (l : List ℕ). nth l (suc k) ≤ most) is (number-within fs ws ms b k most q))

-- ---- line by line

-- what was read so far fits into a table
pub record Fitting (s : SoFar) : Type 0 where
  pub period : s.period < 4294967296
  pub controls : length s.control ≤ most_nodes
  pub datas : length s.rows ≤ most_frames
  pub control_fits : All ControlFits s.control
  pub rows_fit : All DataFits s.rows

where-it-may : {C : Type 0} {t : SoFar} (b : Bool) (o : Option SoFar) → where_it_may b o ≡ some t → (b ≡ true → o ≡ some t → C) → C
where-it-may true o e k = k refl e
where-it-may false o e k = none-some e

taken-by : {C : Type 0} {t : SoFar} (kind : Kind) (s : SoFar) (o : Option (List ℕ)) → taken_by kind s o ≡ some t
    → ((ns : List ℕ) → o ≡ some ns → with_numbers kind s ns ≡ t → C) → C
taken-by kind s none e k = none-some e
taken-by kind s (some ns) e k = k ns refl (some_injective e)

-- a line that is taken may stand there, and its words have the forms of its kind
with-kind : {C : Type 0} {t : SoFar} (kind : Kind) (s : SoFar) (ws : List (List ℕ)) → with_kind kind s ws ≡ some t
    → ((ns : List ℕ) → may_stand kind s.stage (length s.control) (length s.rows) ≡ true → numbers_in (forms_of kind) ws ≡ some ns
    → with_numbers kind s ns ≡ t → C) → C
unfolding with_kind
with-kind kind s ws e k =
    where-it-may (may_stand kind s.stage (length s.control) (length s.rows)) (taken_by kind s (numbers_in (forms_of kind) ws)) e
    (λ may q. taken-by kind s (numbers_in (forms_of kind) ws) q (λ ns r is. k ns may r is))

numbers_fit : (kind : Kind) (s : SoFar) (ws : List (List ℕ)) (ns : List ℕ) → Fitting s
    → may_stand kind s.stage (length s.control) (length s.rows) ≡ true → numbers_in (forms_of kind) ws ≡ some ns
    → Fitting (with_numbers kind s ns)
unfolding with_numbers may_stand
numbers_fit Refused s ws ns f may e =
    record { period = f.period; controls = f.controls; datas = f.datas; control_fits = f.control_fits; rows_fit = f.rows_fit }
numbers_fit Cycle s ws ns f may e =
    record {
      period = omega (arith, number-within (forms_of Cycle) ws ns e 0 4294967295 refl);
      controls = f.controls;
      datas = f.datas;
      control_fits = f.control_fits;
      rows_fit = f.rows_fit;
    }
numbers_fit Control s ws ns f may e =
    let row : ControlRow = record { node = nth ns 0; start = nth ns 4; stop = nth ns 5 } in
    let room : length s.control < most_nodes =
    ltb-true (length s.control) most_nodes
    (both_right (eqb (length s.rows) 0) (ltb (length s.control) most_nodes)
    (both_right (eqb s.stage 2) (eqb (length s.rows) 0 && ltb (length s.control) most_nodes) may)) in
    let node : nth ns 0 < 256 = omega (arith, number-within (forms_of Control) ws ns e 0 255 refl) in
    let start : nth ns 4 < 4294967296 = omega (arith, number-within (forms_of Control) ws ns e 4 4294967295 refl) in
    let stop : nth ns 5 < 4294967296 = omega (arith, number-within (forms_of Control) ws ns e 5 4294967295 refl) in
    let fits : ControlFits row = record { node = node; start = start; stop = stop } in
    record {
      period = f.period;
      controls = omega (arith, length_snoc s.control row);
      datas = f.datas;
      control_fits = all_append f.control_fits (also fits empty);
      rows_fit = f.rows_fit;
    }
numbers_fit Data s ws ns f may e =
    let row : DataRow = record { task = nth ns 1; deadline = nth ns 3; start = nth ns 4; stop = nth ns 5 } in
    let room : length s.rows < most_frames =
    ltb-true (length s.rows) most_frames (both_right (eqb s.stage 2) (ltb (length s.rows) most_frames) may) in
    let task : nth ns 1 < 256 = omega (arith, number-within (forms_of Data) ws ns e 1 255 refl) in
    let deadline : nth ns 3 < 4294967296 = omega (arith, number-within (forms_of Data) ws ns e 3 4294967295 refl) in
    let start : nth ns 4 < 4294967296 = omega (arith, number-within (forms_of Data) ws ns e 4 4294967295 refl) in
    let stop : nth ns 5 < 4294967296 = omega (arith, number-within (forms_of Data) ws ns e 5 4294967295 refl) in
    let fits : DataFits row = record { task = task; deadline = deadline; start = start; stop = stop } in
    record {
      period = f.period;
      controls = f.controls;
      datas = omega (arith, length_snoc s.rows row);
      control_fits = f.control_fits;
      rows_fit = all_append f.rows_fit (also fits empty);
    }
numbers_fit Other s ws ns f may e = f

words-fit : {t : SoFar} (s : SoFar) (ws : List (List ℕ)) → Fitting s → with_words s ws ≡ some t → Fitting t
unfolding with_words
words-fit s [] f e = subst Fitting (some_injective e) f
words-fit s (w ∷ ws) f e =
    with-kind (kind_of w) s ws e (λ ns may q is. subst Fitting is (numbers_fit (kind_of w) s ws ns f may q))

pub line-fits : {t : SoFar} (s : SoFar) (line : List ℕ) → Fitting s → with_line s line ≡ some t → Fitting t
unfolding with_line
line-fits s line f e = words-fit s (words (uncommented line)) f e

-- ---- the whole text

sheet_injective : {s t : SoFar} → Back.sheet s ≡ Back.sheet t → s ≡ t
sheet_injective e = cc

unreadable_no : {C : Type 0} {n : ℕ} {t : SoFar} → Back.unreadable n ≡ Back.sheet t → C
unreadable_no e = let z : ◌≡◌ {A = ℕ} 0 1 = cc in absurd (omega arith)

end_fits : {t : SoFar} (number : ℕ) (s : SoFar) (b : Bool) → Fitting s → cond b (sheet s) (unreadable number) ≡ sheet t → Fitting t
end_fits number s true f e = subst Fitting (sheet_injective e) f
end_fits number s false f e = unreadable_no e

goes_on_lem : {t : SoFar} (number : ℕ) (o : Option SoFar) (rest : SoFar → Back) → goes_on number o rest ≡ sheet t
    → ((u : SoFar) → o ≡ some u → rest u ≡ sheet t → Fitting t) → Fitting t
goes_on_lem number none rest e k = unreadable_no e
goes_on_lem number (some u) rest e k = k u refl e

lines_fit : {t : SoFar} (number : ℕ) (ls : List (List ℕ)) (s : SoFar) → Fitting s → read_lines number ls s ≡ sheet t → Fitting t
unfolding read_lines
lines_fit number [] s f e = end_fits number s (eqb s.stage 2) f e
lines_fit number (l ∷ ls) s f e =
    goes_on_lem number (with_line s l) (read_lines (suc number) ls) e (λ u q r. lines_fit (suc number) ls u (line-fits s l f q) r)

pub nothing-fits : Fitting nothing_yet
nothing-fits = record { period = lit< tt; controls = zero-le; datas = zero-le; control_fits = empty; rows_fit = empty }

pub read_fits : (text : List ℕ) (s : SoFar) → read_sheet text ≡ sheet s → Fitting s
unfolding read_sheet
read_fits text s e = lines_fit 1 (lines_of text) nothing_yet nothing-fits e

-- the table that is written reads as records, and these are the cycle and the rows that were read, under a head that counts them; and it is of
-- the edition that was read
pub record Pinned (s : SoFar) : Type 0 where
  pub rs : List Rec
  pub reads : records table_follows 20 (table_read s) ≡ ok rs
  pub is :
      table_of rs ≡ record {
        period = s.period;
        controls = length s.control;
        datas = length s.rows;
        control = s.control;
        rows = map row_of s.rows;
      }
  pub edition : is_for_consumers (table_read s) ≡ s.consumers
  pub few_controls : length s.control ≤ most_nodes
  pub few_rows : length s.rows ≤ most_frames

pub pinned : (text : List ℕ) (s : SoFar) → read_sheet text ≡ sheet s → Pinned s
unfolding table_read table_of_rows header_bytes record_bytes
pinned text s e =
    let f = read_fits text s e in
    let head = head_kind s.consumers in
    let fits : RowsFit head s.period s.control s.rows =
    record {
      is_head = head-of s.consumers;
      period_fits = f.period;
      controls = omega (arith, f.controls);
      datas = omega (arith, f.datas);
      control_fits = f.control_fits;
      rows_fit = f.rows_fit;
    } in
    record {
      rs = rows_records head s.period s.control s.rows;
      reads = rows-table-reads head s.period s.control s.rows fits;
      is = rows-table-read head s.period s.control s.rows (head-of s.consumers);
      edition = edition-of s.consumers _;
      few_controls = f.controls;
      few_rows = f.datas;
    }
