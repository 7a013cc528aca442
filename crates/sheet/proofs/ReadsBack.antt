-- A sheet reads back to its table. The lines of the text are the sheet's lines; a reader takes them one by one, the rows so far being the first
-- rows of the table; and the rows with the head that counts them are the table's bytes.
use mathlib.Core.Path.{◌≡◌, refl, sym, ap, ap₂, ◌∙◌, subst}
use mathlib.Core.Bool.{true, false}
use mathlib.Core.List.{List, [], ◌∷◌, ◌++◌, map}
use mathlib.Core.Option.{some}
use native.Mathlib.Nat.{add-zero, zero-add}
use native.Mathlib.Omega.{arith}
use lib.ListN.{length, get_or, take, length-map}
use lib.Seq.{take-suc, take_all, length-take-le}
use Prim.Native.Nat.{ℕ, zero, suc, ◌+◌, ◌≤◌, ◌<◌}
use Rattle.laws.specs.Res.{Res, ok, refuse}
use Rattle.laws.specs.Lists.{all, joined, tab}
use Rattle.laws.proofs.Little.{Bytes}
use Rattle.laws.proofs.Members.{All, also, all_append, all_get_d, all-get_or-or, all_member, all-tab, map-get_or}
use Rattle.rules.specs.Records.{head_kind}
use Rattle.rules.specs.Plan.{the_task}
use Rattle.rules.specs.Traffic.{module_node, task_node}
use Rattle.rules.specs.Frames.{ControlRow, no_control_row}
use Rattle.rules.specs.Table.{DataRow, header_bytes, record_bytes, table_of_rows}
use Rattle.rules.specs.Checker.{TableRead, table_of, no_row, name_of, row_of, Row, Passed, control_at, row_at, first_row, last_row, timed, is_for_consumers, located}
use Rattle.rules.proofs.Editions.{edition_in}
use Rattle.rules.proofs.Heads.{IsHead, basic_head, consumers_head}
use Rattle.rules.proofs.LaidOut.{period-kept, pairs-kept, pairs-released}
use Rattle.rules.proofs.RefusalNumbers.{timed-gives}
use Rattle.rules.proofs.TableBytes.{ControlFits, DataFits}
use Rattle.rules.proofs.TableFile.{FileIs, table-file, file-rows, control_of, datas_of, kind_of_head, period_of_head, controls_of_head, datas_of_head}
use Rattle.rules.proofs.Located.{
  LocatedAs,
  located_as,
  timed-places,
  plan-kept,
  plan-laid,
  located-header,
  few-control,
  few-rows,
  opens-pair,
}
use Rattle.text.specs.Text.{ended}
use Rattle.text.specs.Lines.{is_other}
use Rattle.text.proofs.Runs.{lines-joined}
use Rattle.sheet.specs.Sheet.{
  release_of,
  control_cells,
  data_cells,
  control_line,
  data_line,
  sheet_lines,
  sheet_of,
  on_top,
  text_for,
  sheet_text,
}
use Rattle.sheet.specs.Back.{SoFar, nothing_yet, with_line, sheet, read_lines, read_sheet, table_read, TableBack, table_from, read_back}
use Rattle.sheet.proofs.Ticks.{control-few, data_few}
use Rattle.sheet.proofs.RowLines.{
  read_to,
  control-feedless,
  data_feedless,
  control-line,
  RowSmall,
  data_of,
  data-line,
  cycle-feedless,
  cycle-line,
  head-feedless,
  head-line,
  top_line,
  top_ended,
  top_feedless,
  top-line,
}

-- ---- lines one by one

-- a reader that takes each of the lines
data Takes : SoFar → List (List ℕ) → SoFar → Type 0 where
  takes_none : {s : SoFar} → Takes s [] s
  takes-line : {s t u : SoFar} {line : List ℕ} {lines : List (List ℕ)} → with_line s line ≡ some t → Takes t lines u → Takes s (line ∷ lines) u

takes-append : {s t u : SoFar} {ls ms : List (List ℕ)} → Takes s ls t → Takes t ms u → Takes s (ls ++ ms) u
takes-append takes_none m = m
takes-append (takes-line e r) m = takes-line e (takes-append r m)

takes-tab : (f : ℕ → List ℕ) (g : ℕ → SoFar) (lo n : ℕ) → ((k : ℕ) → lo ≤ k → k < lo + n → with_line (g k) (f k) ≡ some (g (suc k)))
    → Takes (g lo) (tab f lo n) (g (lo + n))
takes-tab f g lo zero h = subst (λ (k : ℕ). Takes (g lo) [] (g k)) (sym (add-zero lo)) takes_none
takes-tab f g lo (suc n) h =
    let further : suc lo + n ≡ lo + suc n = omega arith in
    takes-line (h lo (omega arith) (omega arith))
    (subst (λ (k : ℕ). Takes (g (suc lo)) (tab f (suc lo) n) (g k)) further
    (takes-tab f g (suc lo) n (λ k a b. h k (omega arith) (omega arith))))

-- what is read is what was taken, where the cycle has come
takes-reads : {s t : SoFar} {ls : List (List ℕ)} (number : ℕ) → Takes s ls t → t.stage ≡ 2 → read_lines number ls s ≡ sheet t
unfolding read_lines
takes-reads number takes_none e = rw e
takes-reads number (takes-line e r) q = rw e (takes-reads (suc number) r q)

-- ---- the table's rows

-- the kind of a table's head is that of the edition which its first byte says
head-kind : {head : ℕ} → IsHead head → (rest : List ℕ) → head ≡ head_kind (is_for_consumers (head ∷ rest))
unfolding head_kind is_for_consumers
head-kind basic_head rest = refl
head-kind consumers_head rest = refl

pub last-few : {plan table : List ℕ} {c : Passed} → LocatedAs plan table c → last_row c.table ≤ 1032
unfolding last_row
last-few h = omega (arith, few-control h, few-rows h)

abbrev no_data : DataRow
no_data = record { task = 0; deadline = 0; start = 0; stop = 0 }

module _ {plan table : List ℕ} {c : Passed} (h : LocatedAs plan table c) (bytes : Bytes table) where
  abbrev datas : List DataRow
  datas = datas_of h.rs

  file : FileIs table h.rs
  file = table-file table h.rs h.are_records bytes

  -- the table as it was read, field by field
  period-is : period_of_head h.rs ≡ c.table.period
  unfolding table_of
  period-is = ap (λ (t : TableRead). t.period) h.is_table

  control-is : control_of h.rs ≡ c.table.control
  unfolding table_of
  control-is = ap (λ (t : TableRead). t.control) h.is_table

  rows_is : map row_of datas ≡ c.table.rows
  unfolding table_of
  rows_is = ap (λ (t : TableRead). t.rows) h.is_table

  controls-is : controls_of_head h.rs ≡ c.table.controls
  unfolding table_of
  controls-is = ap (λ (t : TableRead). t.controls) h.is_table

  datas-is : datas_of_head h.rs ≡ c.table.datas
  unfolding table_of
  datas-is = ap (λ (t : TableRead). t.datas) h.is_table

  rows-count : length datas ≡ length c.table.rows
  rows-count = sym (length-map datas row_of) ∙ ap length rows_is

  -- the edition is the one that the plan was read in
  head-is : kind_of_head h.rs ≡ head_kind c.plan.consumers
  unfolding header_bytes record_bytes
  head-is =
      head-kind file.is_head _ ∙ ap (λ (l : List ℕ). head_kind (is_for_consumers l)) (sym file.is)
      ∙ ap head_kind (sym (edition_in (is_for_consumers table) plan c.plan h.is_read))

  -- so the file is the table of its rows: rule 21 counts them
  table_is : table ≡ table_of_rows (head_kind c.plan.consumers) c.table.period c.table.control datas
  table_is =
      let right = located-header h in
      let controls : controls_of_head h.rs ≡ length (control_of h.rs) =
      controls-is ∙ right.controls ∙ sym right.control_rows ∙ ap length (sym control-is) in
      let counted : datas_of_head h.rs ≡ length datas = datas-is ∙ right.datas ∙ sym right.data_rows ∙ sym rows-count in
      file-rows file controls counted ∙ ap₂ (λ (n p : ℕ). table_of_rows n p (control_of h.rs) datas) head-is period-is
      ∙ ap (λ (l : List ControlRow). table_of_rows (head_kind c.plan.consumers) c.table.period l datas) control-is

  -- ---- every number is one that a reader takes

  pub period-fits : c.table.period < 4294967296
  period-fits = subst (λ (n : ℕ). n < 4294967296) period-is file.period

  pub control-fits : All ControlFits c.table.control
  control-fits = subst (All ControlFits) control-is file.control_fits

  row_is : (k : ℕ) → k < length datas → row_at c.table k ≡ row_of (get_or datas k no_data)
  unfolding row_at
  row_is k w = ap (λ (l : List Row). get_or l k no_row) (sym rows_is) ∙ map-get_or row_of datas no_data no_row k w

  data_is : (k : ℕ) → k < length datas → data_of (row_at c.table k) ≡ get_or datas k no_data
  unfolding row_of name_of
  data_is k w = ap data_of (row_is k w)

  node-few : (t : ℕ) → task_node c.plan t < 256
  unfolding task_node module_node
  node-few t =
      let kept = plan-kept h in
      let below = all-get_or-or {P = λ n. n < c.plan.nodes} 0 kept.modules (omega (arith, kept.node_count.least)) (the_task c.plan t).home in
      omega (arith, below, kept.node_count.most)

  release-few : (k : ℕ) → k < length c.table.rows → release_of c (row_at c.table k) ≤ 1000000
  unfolding release_of
  release-few k w =
      let kept = plan-kept h in
      let one = opens-pair h k w in
      omega (
        arith,
        all_member (pairs-released c.plan kept) one,
        (all_member (pairs-kept c.plan kept) one).deadline,
        (period-kept c.plan kept (plan-laid h)).most,
      )

  pub row_small : (k : ℕ) → k < length c.table.rows → RowSmall c (row_at c.table k)
  row_small k w =
      let v : k < length datas = omega (arith, rows-count) in
      let fits : DataFits (data_of (row_at c.table k)) = subst DataFits (sym (data_is k v)) (all_get_d no_data file.rows_fit k v) in
      record {
        node = node-few (row_at c.table k).opens.task;
        task = fits.task;
        release = release-few k w;
        deadline = fits.deadline;
        start = fits.start;
        stop = fits.stop;
        sent = data_few h k w;
      }

  -- ---- row by row

  -- what is read behind the first line, with these rows
  abbrev behind : List ControlRow → List DataRow → SoFar
  behind = read_to c.plan.consumers c.table.period

  abbrev behind_control : ℕ → SoFar
  behind_control k = behind (take k c.table.control) []

  abbrev behind_data : ℕ → SoFar
  behind_data k = behind c.table.control (take k datas)

  control-taken : (k : ℕ) → k < length c.table.control → with_line (behind_control k) (control_line c k) ≡ some (behind_control (suc k))
  unfolding control_line control_at
  control-taken k w =
      let r = get_or c.table.control k no_control_row in
      let few : length (take k c.table.control) < 8 =
      omega (arith, length-take-le k c.table.control (omega arith), few-control h) in
      control-line c.plan r (all_get_d no_control_row control-fits k w) (control-few c.plan (plan-kept h) r)
      c.plan.consumers c.table.period (take k c.table.control) (1 + k) few
      ∙ ap (λ (l : List ControlRow). some (behind l [])) (sym (take-suc c.table.control k no_control_row w))

  data_taken : (k : ℕ) → k < length datas → with_line (behind_data k) (data_line c k) ≡ some (behind_data (suc k))
  unfolding data_line
  data_taken k w =
      let v : k < length c.table.rows = omega (arith, rows-count) in
      let few : length (take k datas) < 1024 = omega (arith, length-take-le k datas (omega arith), few-rows h, rows-count) in
      data-line c (row_at c.table k) (row_small k v) c.plan.consumers c.table.period c.table.control (take k datas) (first_row c.table + k) few
      ∙ ap (λ (r : DataRow). some (behind c.table.control (take k datas ++ (r ∷ [])))) (data_is k w)
      ∙ ap (λ (l : List DataRow). some (behind c.table.control l)) (sym (take-suc datas k no_data w))

  controls-taken : Takes (behind [] []) (tab (control_line c) 0 (length c.table.control))
      (behind c.table.control [])
  controls-taken =
      let C = c.table.control in
      subst (λ (l : List ControlRow). Takes (behind_control 0) (tab (control_line c) 0 (length C)) (behind l []))
      (ap (λ (k : ℕ). take k C) (zero-add (length C)) ∙ take_all (length C) C (omega arith))
      (takes-tab (control_line c) behind_control 0 (length C) (λ k a b. control-taken k (omega arith)))

  datas-taken : Takes (behind c.table.control []) (tab (data_line c) 0 (length c.table.rows))
      (behind c.table.control datas)
  datas-taken =
      let n = length c.table.rows in
      subst (λ (l : List DataRow). Takes (behind_data 0) (tab (data_line c) 0 n) (behind c.table.control l))
      (ap (λ (k : ℕ). take k datas) (zero-add n) ∙ take_all n datas (omega (arith, rows-count)))
      (takes-tab (data_line c) behind_data 0 n (λ k a b. data_taken k (omega (arith, rows-count))))

  -- the whole sheet, from where the cycle may come
  sheet-taken : (s : SoFar) → s.stage < 2 → s.control ≡ [] → s.rows ≡ []
      → Takes s (sheet_lines c) (behind c.table.control datas)
  unfolding sheet_lines
  sheet-taken s w e q =
      takes-line
      (cycle-line s c.plan.consumers c.table.period period-fits w
      ∙ ap₂ (λ (l : List ControlRow) (m : List DataRow). some (behind l m)) e q)
      (takes-line (head-line (behind [] [])) (takes-append controls-taken datas-taken))

  -- ---- the text

  sheet-feedless : All (λ l. all (is_other 10) l ≡ true) (sheet_lines c)
  unfolding sheet_lines control_line data_line
  sheet-feedless =
      also (cycle-feedless c.plan.consumers c.table.period)
      (also head-feedless
      (all_append
      (all-tab (control_line c) 0 (length c.table.control)
      (λ k a b. control-feedless (control_cells c.plan (control_at c.table.control k)) (1 + k)))
      (all-tab (data_line c) 0 (length c.table.rows)
      (λ k a b. data_feedless (data_cells c (row_at c.table k)) (first_row c.table + k)))))

  read-lines : (ls : List (List ℕ)) → All (λ l. all (is_other 10) l ≡ true) ls
      → Takes nothing_yet ls (behind c.table.control datas) → read_back (joined (map ended ls)) ≡ TableBack.table table
  unfolding read_back read_sheet table_read
  read-lines ls feedless t =
      ap (λ (ms : List (List ℕ)). table_from (read_lines 1 ms nothing_yet)) (lines-joined ls feedless)
      ∙ ap table_from (takes-reads 1 t refl) ∙ ap TableBack.table (sym table_is)

  -- with a refusal on top or without
  topped : (m : Res (Unit {0})) → timed c.layout c.table ≡ m → read_back (on_top m ++ sheet_of c) ≡ TableBack.table table
  unfolding sheet_of
  topped (ok u) e = read-lines (sheet_lines c) sheet-feedless (sheet-taken nothing_yet (omega arith) refl refl)
  topped (refuse n p) e =
      let number : n < 18446744073709551616 = omega (arith, ((timed-gives c.layout c.table).number n p e).1) in
      let place : p < 18446744073709551616 = omega (arith, (timed-places c.layout c.table).place n p e, last-few h) in
      let after : SoFar = record { stage = 1; consumers = false; period = 0; control = []; rows = [] } in
      ap (λ (l : List ℕ). read_back (l ++ joined (map ended (sheet_lines c)))) (top_ended n p)
      ∙ read-lines (top_line n p ∷ sheet_lines c) (also (top_feedless n p) sheet-feedless)
      (takes-line (top-line n p number place) (sheet-taken after (omega arith) refl refl))

  pub text_back : read_back (on_top (timed c.layout c.table) ++ sheet_of c) ≡ TableBack.table table
  text_back = topped (timed c.layout c.table) refl

-- a sheet reads back to the table's own bytes, also where a refusal stands on top of it
pub reads_back : (plan table : List ℕ) (c : Passed) → Bytes table → located plan table ≡ ok c → read_back (sheet_text plan table) ≡ TableBack.table table
unfolding sheet_text
reads_back plan table c bytes e = ap (λ (m : Res Passed). read_back (text_for m)) e ∙ text_back (located_as plan table c e) bytes

table_injective : {t u : List ℕ} → TableBack.table t ≡ TableBack.table u → t ≡ u
table_injective e = cc

-- so two tables that print, under any two plans, print differently unless they are one
pub prints_differently : (p t q u : List ℕ) (c d : Passed) → Bytes t → Bytes u → located p t ≡ ok c → located q u ≡ ok d
    → sheet_text p t ≡ sheet_text q u → t ≡ u
prints_differently p t q u c d bt bu ct du e =
    table_injective (sym (reads_back p t c bt ct) ∙ ap read_back e ∙ reads_back q u d bu du)
