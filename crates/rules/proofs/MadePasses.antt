-- MadePasses: a table whose rows are placed well passes the checker, and both have the same frame rows (`well_passes`). The latest-release
-- rule places well, so whatever `make` makes, `check` passes.
use mathlib.Core.Path.{◌≡◌, refl, sym, ap, ◌∙◌, subst}
use mathlib.Core.Bool.{Bool, true}
use mathlib.Core.List.{List, [], ◌∷◌, map, Memᴰ}
use mathlib.Core.Logic.{◌⊎◌, inl, inr}
use native.Mathlib.Omega.{arith}
use borrow.Author.Tests.{leb-true, le-leb, lt-leb}
use lib.Dec.{leb}
use lib.ListN.{length, take, drop}
use lib.Seq.{take_at}
use Prim.Native.Nat.{ℕ, ◌≤◌, ◌<◌}
use Rattle.laws.specs.Res.{Res, ok, refuse, unless}
use Rattle.laws.proofs.Res.{refuse≢ok, ok_injective, bind_case, then_case, unless-ok}
use Rattle.laws.proofs.Lists.{true-false}
use Rattle.laws.proofs.Orders.{le-or-lt}
use Rattle.laws.proofs.Members.{All, Pairs, all_weaker, all_of_members, all_get_d, all_map}
use Rattle.rules.specs.Limits.{most_frames}
use Rattle.rules.specs.Records.{Rec, table_follows}
use Rattle.rules.specs.Plan.{Plan}
use Rattle.rules.specs.Traffic.{read_in, traffic}
use Rattle.rules.specs.Frames.{is_one, Layout, layout, layout_of, pairs, control_end}
use Rattle.rules.specs.LatestRelease.{Numbered, Placed, no_pair, latest_release}
use Rattle.rules.specs.Table.{PlacedRow, pair_of_numbered, held_in, pairs_in, alone, data_row, table_bytes, longest_table, FrameRow, rows_from, rows_then_zero, MadeTable, made_table, table_for, outcome, make, record_bytes, header_bytes}
use Rattle.rules.specs.Checker.{name_of, row_of, table_of, is_for_consumers, Passed, check_files, checked_row, check}
use Rattle.rules.specs.Obeys.{AreRecords, pair_at, ObeysTable, MayPass, stop_of, RowPlacedWell, numbers_in, PlacedWell}
use Rattle.rules.proofs.PlanKept.{PlanKept}
use Rattle.rules.proofs.Heads.{IsHead, head-of, edition-of}
use Rattle.rules.proofs.Editions.{readable_kept_in, edition_in}
use Rattle.rules.proofs.LaidOut.{LaidOut, laid_out, period-kept, PairKept, pairs-kept, control-kept, control-count, gap_within, end_whole}
use Rattle.rules.proofs.PairsOf.{Before, plan-pairs}
use Rattle.rules.proofs.Placing.{placed_well}
use Rattle.rules.proofs.TableBytes.{ControlFits, DataFits, TableFits, table_read, table_records, table-written, table-read}
use Rattle.rules.proofs.TableLength.{table-length, length_most}
use Rattle.rules.proofs.WellPlaced.{row_placed, table_placed, well_obeys, well_rows}
use Rattle.rules.proofs.CheckerExact.{passed_passes, lent-enough}

-- The table of these rows passes: its bytes are records, and what they say is the rows as placed; these keep 21 to 28, and the frame rows
-- that the checker takes from them are those of the placing.
pub record Passes (l : Layout) (rows : List PlacedRow) : Type 0 where
  pub read : List Rec
  pub are_rows : AreRecords table_follows 0 (table_bytes l rows) read
  pub is : table_of read ≡ table_placed l rows
  pub obeys : ObeysTable l (table_placed l rows)
  pub same_rows : map (checked_row (table_placed l rows)) l.pairs ≡ rows_from rows 0 l.pairs

-- ---- a row holds one pair, so that its record says all of it

one-held : (r : PlacedRow) → is_one (pairs_in r) ≡ true → r.others ≡ []
unfolding pairs_in held_in
one-held r e = only r.others e
  where
    only : (xs : List Numbered) → is_one (r.opens.pair ∷ map pair_of_numbered xs) ≡ true → xs ≡ []
    only [] e = refl
    only (x ∷ xs) e = true-false (sym e)

row_read : (l : Layout) (r : PlacedRow) → r.others ≡ [] → row_of (data_row l r) ≡ row_placed l r
unfolding row_of name_of data_row held_in stop_of
row_read l r e = rw e

rows-read : (l : Layout) (rows : List PlacedRow) → ((r : PlacedRow) → Memᴰ r rows → r.others ≡ [])
    → map row_of (map (data_row l) rows) ≡ map (row_placed l) rows
rows-read l [] h = refl
rows-read l (r ∷ rows) h = rw (row_read l r (h r (mathlib.Core.List.Memᴰ.head refl)), rows-read l rows (λ s m. h s (mathlib.Core.List.Memᴰ.tail m)))

numbers-count : (rows : List PlacedRow) → ((r : PlacedRow) → Memᴰ r rows → r.others ≡ []) → length (numbers_in rows) ≡ length rows
unfolding numbers_in held_in
numbers-count [] h = refl
numbers-count (r ∷ rows) h = rw (h r (mathlib.Core.List.Memᴰ.head refl), numbers-count rows (λ s m. h s (mathlib.Core.List.Memᴰ.tail m)))

module _ (p : Plan) (k : PlanKept p) (h : LaidOut p (layout_of p)) (rows : List PlacedRow) (well : PlacedWell (layout_of p) rows) where
  abbrev l : Layout
  l = layout_of p

  lone : (r : PlacedRow) → Memᴰ r rows → r.others ≡ []
  unfolding layout_of
  lone r m = one-held r (well.rows_well r m).together

  count : length rows ≡ length l.pairs
  count = sym (numbers-count rows lone) ∙ well.once

  read-placed : table_read l rows ≡ table_placed l rows
  read-placed = rw (rows-read l rows lone)

  -- ---- every number fits its field

  control-fits : All ControlFits l.control
  unfolding layout_of
  control-fits =
      let period = period-kept p k h in
      all_weaker
      (λ r c. record {
        node = omega (arith, c.node, k.node_count.most);
        start = omega (arith, c.start, c.stop, h.room, period.most);
        stop = omega (arith, c.stop, h.room, period.most);
      })
      (control-kept p)

  data_fits : (r : PlacedRow) → RowPlacedWell l r → DataFits (data_row l r)
  unfolding layout_of pairs data_row held_in stop_of pair_at
  data_fits r w =
      let period = period-kept p k h in
      let first : Memᴰ r.opens (held_in r) = mathlib.Core.List.Memᴰ.head refl in
      let opens = w.known r.opens first in
      let pair = subst (PairKept p) opens.is (all_get_d no_pair (pairs-kept p k) r.opens.number opens.there) in
      let stop = w.in_time r.opens first in
      record {
        task = omega (arith, pair.task, k.task_count.most);
        deadline = omega (arith, pair.deadline, period.most);
        start = omega (arith, stop, pair.deadline, period.most);
        stop = omega (arith, stop, pair.deadline, period.most);
      }

  its_head : IsHead l.head
  unfolding layout_of
  its_head = head-of p.consumers

  pub table_fits : TableFits l rows
  unfolding layout_of pairs
  table_fits =
      let period = period-kept p k h in
      record {
        is_head = its_head;
        period = omega (arith, period.most);
        controls = omega (arith, control-count p, k.node_count.most);
        datas = omega (arith, count, h.few);
        control = control-fits;
        rows = all_map (data_row l) (all_of_members rows (λ r m. data_fits r (well.rows_well r m)));
      }

  pub table-short : length (table_bytes l rows) ≤ longest_table
  unfolding layout_of pairs
  table-short =
      rw (table-length l its_head rows)
      (length_most (length l.control) (length rows) (omega (arith, control-count p, k.node_count.most)) (omega (arith, count, h.few)))

  sorted : Pairs Before l.pairs
  unfolding layout_of pairs
  sorted = (plan-pairs p).sorted

  passes : Passes l rows
  unfolding layout_of control_end
  passes =
      record {
        read = table_records l rows;
        are_rows = table-written l rows table_fits;
        is = table-read l rows its_head ∙ read-placed;
        obeys = well_obeys l sorted rows well (omega arith) h.room (omega (arith, end_whole p h)) count;
        same_rows = well_rows l sorted rows well;
      }

-- Rows that are placed well, whatever placed them, make a table that passes, with the same frame rows.
pub well_passes : (p : Plan) → PlanKept p → LaidOut p (layout_of p) → (rows : List PlacedRow) → PlacedWell (layout_of p) rows
    → Passes (layout_of p) rows
well_passes p k h rows well = passes p k h rows well

-- a table that is made of a plan says its edition
table-edition : (p : Plan) (rows : List PlacedRow) → is_for_consumers (table_bytes (layout_of p) rows) ≡ p.consumers
unfolding table_bytes header_bytes record_bytes layout_of
table-edition p rows = edition-of p.consumers _

-- The same of a plan file, in the words of the checker.
module _ (consumers : Bool) (plan : List ℕ) {p : Plan} {l : Layout} (is_read : read_in consumers plan ≡ ok p) (is_laid : layout p ≡ ok l)
    {rows : List PlacedRow} (well : PlacedWell l rows) where
  passes-laid : Passes l rows
  passes-laid =
      let h = laid_out p l is_laid in
      let well₀ = subst (λ (l : Layout). PlacedWell l rows) (sym h.is) well in
      subst (λ (l : Layout). Passes l rows) h.is
      (well_passes p (readable_kept_in consumers plan p is_read) (subst (LaidOut p) (sym h.is) h) rows well₀)

  -- it is no longer than the longest
  pub well_short : length (table_bytes l rows) ≤ longest_table
  well_short =
      let h = laid_out p l is_laid in
      let well₀ = subst (λ (l : Layout). PlacedWell l rows) (sym h.is) well in
      subst (λ (l : Layout). length (table_bytes l rows) ≤ longest_table) h.is
      (table-short p (readable_kept_in consumers plan p is_read) (subst (LaidOut p) (sym h.is) h) rows well₀)

  -- the table says the edition of the plan
  its_edition : is_for_consumers (table_bytes l rows) ≡ consumers
  its_edition =
      subst (λ (l : Layout). is_for_consumers (table_bytes l rows) ≡ consumers) (laid_out p l is_laid).is
      (table-edition p rows ∙ edition_in consumers plan p is_read)

  may_pass : MayPass plan (table_bytes l rows)
  may_pass =
      record {
        read = p;
        is_read = rw its_edition is_read;
        laid = l;
        is_laid = is_laid;
        rows = passes-laid.read;
        are_rows = passes-laid.are_rows;
        obeys = rw passes-laid.is passes-laid.obeys;
      }

  -- what the checker hands on is what was laid out and placed
  pub well_checked : check_files plan (table_bytes l rows) ≡ ok (record { plan = p; traffic = traffic p; layout = l; table = table_placed l rows })
  unfolding may_pass
  well_checked = passed_passes plan (table_bytes l rows) may_pass ∙ rw passes-laid.is

  pub well_checks : (lent : List FrameRow) → most_frames ≤ length lent
      → check plan (table_bytes l rows) lent ≡ record { answer = ok tt; rows = rows_then_zero (made_table l rows).rows (length lent) }
  unfolding made_table
  well_checks lent w = lent-enough plan (table_bytes l rows) lent w ∙ rw (well_checked, passes-laid.same_rows)

-- ---- what was made

pub record TableMade (consumers : Bool) (plan : List ℕ) (room : ℕ) (t : MadeTable) : Type 0 where
  pub read : Plan
  pub is_read : read_in consumers plan ≡ ok read
  pub laid : Layout
  pub is_laid : layout read ≡ ok laid
  pub placed : List Placed
  pub rule : latest_release laid ≡ ok placed
  pub fits : length (table_bytes laid (map alone placed)) ≤ room
  pub is : made_table laid (map alone placed) ≡ t

pub table-made : (consumers : Bool) (plan : List ℕ) (room : ℕ) (t : MadeTable) → table_for consumers plan room ≡ ok t
    → TableMade consumers plan room t
unfolding table_for made_table
table-made consumers plan room t e =
    bind_case (read_in consumers plan) _ e λ p is_read e₁.
    bind_case (layout p) _ e₁ λ l is_laid e₂.
    bind_case (latest_release l) _ e₂ λ placed rule e₃.
    let n = length (table_bytes l (map alone placed)) in
    then_case (unless 13 n (leb n room)) _ e₃ λ _ fits e₄.
    record {
      read = p;
      is_read = is_read;
      laid = l;
      is_laid = is_laid;
      placed = placed;
      rule = rule;
      fits = leb-true n room (unless-ok 13 n (leb n room) fits);
      is = ok_injective e₄;
    }

-- the latest-release rule on a plan's layout places well
pub rule_well : (p : Plan) (l : Layout) → layout p ≡ ok l → (placed : List Placed) → latest_release l ≡ ok placed → PlacedWell l (map alone placed)
unfolding layout_of
rule_well p l is_laid placed rule =
    let is = (laid_out p l is_laid).is in
    let rule₀ : latest_release (layout_of p) ≡ ok placed = rw is rule in
    subst (λ (l : Layout). PlacedWell l (map alone placed)) is (placed_well (layout_of p) (gap_within p) (λ f. refl) placed rule₀)

module _ {consumers : Bool} {plan : List ℕ} {room : ℕ} {t : MadeTable} (m : TableMade consumers plan room t) where
  abbrev rows_of : List PlacedRow
  rows_of = map alone m.placed

  abbrev well_of : PlacedWell m.laid rows_of
  well_of = rule_well m.read m.laid m.is_laid m.placed m.rule

  bytes_are : table_bytes m.laid rows_of ≡ t.table
  unfolding made_table
  bytes_are = ap (λ (t : MadeTable). t.table) m.is

  pub made_passed : check_files plan t.table
      ≡ ok (record { plan = m.read; traffic = traffic m.read; layout = m.laid; table = table_placed m.laid rows_of })
  made_passed = ap (check_files plan) (sym bytes_are) ∙ well_checked consumers plan m.is_read m.is_laid well_of

  pub made_checked : (lent : List FrameRow) → most_frames ≤ length lent
      → check plan t.table lent ≡ record { answer = ok tt; rows = rows_then_zero t.rows (length lent) }
  made_checked lent w =
      ap (λ (table : List ℕ). check plan table lent) (sym bytes_are) ∙ well_checks consumers plan m.is_read m.is_laid well_of lent w
      ∙ rw m.is

-- Whatever the maker makes passes the checker.
pub made-passes : (consumers : Bool) (plan : List ℕ) (room : ℕ) (t : MadeTable) → table_for consumers plan room ≡ ok t
    → (c : Passed) × (check_files plan t.table ≡ ok c)
made-passes consumers plan room t e = (_, made_passed (table-made consumers plan room t e))

-- ---- make and check

outcome_case : {C : Type 0} (r : Res MadeTable) (rows : List FrameRow) (buffer : List ℕ) (n : ℕ) → (outcome r rows buffer).answer ≡ ok n
    → ((t : MadeTable) → r ≡ ok t → length t.table ≡ n → C) → C
outcome_case (ok t) rows buffer n e f = f t refl (ok_injective e)
outcome_case (refuse m p) rows buffer n e f = refuse≢ok e

module _ (consumers : Bool) (plan : List ℕ) (rows : List FrameRow) (buffer : List ℕ) where
  pub make-enough : most_frames ≤ length rows → make consumers plan rows buffer ≡ outcome (table_for consumers plan (length buffer)) rows buffer
  unfolding make
  make-enough h = rw (le-leb most_frames (length rows) h, make)

  pub make-short : length rows < most_frames → make consumers plan rows buffer ≡ record { answer = refuse 19 most_frames; rows = rows; buffer = buffer }
  unfolding make
  make-short h = rw (lt-leb most_frames (length rows) h, make)

  -- what a made table is: the table's own, at the front of the buffer, with the frame rows
  pub record MakeGave (n : ℕ) : Type 0 where
    pub lent : most_frames ≤ length rows
    pub table : MadeTable
    pub made : table_for consumers plan (length buffer) ≡ ok table
    pub long : length table.table ≡ n
    pub front : take n (make consumers plan rows buffer).buffer ≡ table.table
    pub rows_are : (make consumers plan rows buffer).rows ≡ rows_then_zero table.rows (length rows)

  gave : (n : ℕ) → most_frames ≤ length rows → (make consumers plan rows buffer).answer ≡ ok n → MakeGave n
  gave n h e =
      outcome_case (table_for consumers plan (length buffer)) rows buffer n (rw (make-enough h) at e) λ t made long.
      record {
        lent = h;
        table = t;
        made = made;
        long = long;
        front = rw (make-enough h, made) (take_at t.table (drop (length t.table) buffer) n long);
        rows_are = rw (make-enough h, made);
      }

  gave_any : (most_frames ≤ length rows) ⊎ (length rows < most_frames) → (n : ℕ) → (make consumers plan rows buffer).answer ≡ ok n → MakeGave n
  gave_any (inl h) n e = gave n h e
  gave_any (inr h) n e = let f : refuse 19 most_frames ≡ ok n = rw (make-short h) at e in refuse≢ok f

  pub make_gave : (n : ℕ) → (make consumers plan rows buffer).answer ≡ ok n → MakeGave n
  make_gave n e = gave_any (le-or-lt most_frames (length rows)) n e

  -- Whatever `make` makes passes `check`, with enough rows lent.
  pub made_checks : (n : ℕ) → (make consumers plan rows buffer).answer ≡ ok n → (lent : List FrameRow) → most_frames ≤ length lent
      → (check plan (take n (make consumers plan rows buffer).buffer) lent).answer ≡ ok tt
  made_checks n e lent w =
      let g = make_gave n e in
      rw (g.front, made_checked (table-made consumers plan (length buffer) g.table g.made) lent w)

  -- Both leave the same frame rows.
  pub made-rows_agree : (n : ℕ) → (make consumers plan rows buffer).answer ≡ ok n → (lent : List FrameRow) → length lent ≡ length rows
      → (check plan (take n (make consumers plan rows buffer).buffer) lent).rows ≡ (make consumers plan rows buffer).rows
  made-rows_agree n e lent q =
      let g = make_gave n e in
      let w : most_frames ≤ length lent = omega (arith, g.lent) in
      rw (g.front, made_checked (table-made consumers plan (length buffer) g.table g.made) lent w, g.rows_are, q)
