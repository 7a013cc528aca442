-- Located: the checker is what is located, and then 25 to 28 of it; so a table is located exactly where the checker passes it or refuses it
-- with a number from 25 to 28. What is located has its parts by name.
use mathlib.Core.Path.{◌≡◌, refl, sym, ap, ◌∙◌, subst}
use mathlib.Core.Bool.{true}
use mathlib.Core.List.{List, [], ◌∷◌, Memᴰ}
use mathlib.Core.Logic.{◌↔◌}
use native.Mathlib.Omega.{arith}
use lib.Dec.{lit≤}
use lib.ListN.{length}
use Prim.Native.Nat.{ℕ, suc, ◌+◌, ◌≤◌, ◌<◌}
use Rattle.laws.specs.Res.{Res, ok, refuse, ◌>>=◌, ◌>>◌, unless, at}
use Rattle.laws.specs.Lists.{any, first_bad, up_to}
use Rattle.laws.specs.Faults.{AllKept}
use Rattle.laws.proofs.Lists.{both_left}
use Rattle.laws.proofs.Loops.{first_bad-up_to-passes}
use Rattle.laws.proofs.Members.{all_get_d}
use Rattle.laws.proofs.Res.{ok_injective, bind_case, then_case, bind_refused, bind_ok, bind_refuse, at_ok}
use Rattle.laws.proofs.Refusals.{Gives, gives-ok, gives_then, gives_bind, gives-within, PlacesTo, places-unless, places-at, places_then}
use Rattle.rules.specs.Records.{Rec, records, table_follows}
use Rattle.rules.specs.Plan.{Plan}
use Rattle.rules.specs.Traffic.{traffic, read_in}
use Rattle.rules.specs.Limits.{most_nodes, most_frames}
use Rattle.rules.specs.Frames.{Pair, pairs, control_rows, Layout, layout_of, layout}
use Rattle.rules.specs.Checker.{TableRead, table_of, header_right, control_kept, no_row, row_at, is_pair_of, named_in, names_new, time_kept, release_kept, deadline_kept, gap_kept, last_kept, first_row, last_row, rows_keep, shaped, timed, judged, Passed, check_files, located, is_for_consumers}
use Rattle.rules.specs.Obeys.{HeaderIsRight, IsFixed}
use Rattle.rules.proofs.PlanKept.{PlanKept}
use Rattle.rules.proofs.LaidOut.{LaidOut, laid_out, control-count}
use Rattle.rules.proofs.CheckerExact.{NamedFound, named-found, shape_rules, shaped_exact, sorted-pairs}
use Rattle.rules.proofs.SingleRows.{Single, table_single, single_new, new_single}
use Rattle.rules.proofs.RefusalNumbers.{layout-gives, records_give, shaped-gives, timed-gives, read-gives}
use Rattle.rules.proofs.Editions.{readable_kept_in}

-- ---- the checker goes on from there

abbrev passed_of : Plan → Layout → TableRead → Passed
passed_of p l t = record { plan = p; traffic = traffic p; layout = l; table = t }

-- 25 to 28 of a table that is located
abbrev pub then_timed : Passed → Res Passed
then_timed c = ◌>>◌ (timed c.layout c.table) (ok c)

by_shape : (c : Passed) (m : Res (Unit {0})) → ◌>>◌ (◌>>◌ m (timed c.layout c.table)) (ok c) ≡ ◌>>=◌ (◌>>◌ m (ok c)) then_timed
by_shape c (ok u) = refl
by_shape c (refuse n p) = refl

by_rows : (p : Plan) (l : Layout) (m : Res (List Rec))
    → ◌>>=◌ m (λ rs. ◌>>◌ (judged l (table_of rs)) (ok (passed_of p l (table_of rs))))
    ≡ ◌>>=◌ (◌>>=◌ m (λ rs. ◌>>◌ (shaped l (table_of rs)) (ok (passed_of p l (table_of rs))))) then_timed
unfolding judged
by_rows p l (ok rs) = by_shape (passed_of p l (table_of rs)) (shaped l (table_of rs))
by_rows p l (refuse n q) = refl

by_layout : (p : Plan) (table : List ℕ) (m : Res Layout)
    → ◌>>=◌ m (λ l. ◌>>=◌ (records table_follows 20 table) (λ rs. ◌>>◌ (judged l (table_of rs)) (ok (passed_of p l (table_of rs)))))
    ≡ ◌>>=◌ (◌>>=◌ m (λ l. ◌>>=◌ (records table_follows 20 table) (λ rs. ◌>>◌ (shaped l (table_of rs)) (ok (passed_of p l (table_of rs))))))
    then_timed
by_layout p table (ok l) = by_rows p l (records table_follows 20 table)
by_layout p table (refuse n q) = refl

pub located_then : (plan table : List ℕ) → check_files plan table ≡ ◌>>=◌ (located plan table) then_timed
unfolding check_files located
located_then plan table = by-plan (read_in (is_for_consumers table) plan)
  where
    by-plan : (m : Res Plan)
        → ◌>>=◌ m (λ p. ◌>>=◌ (layout p)
        (λ l. ◌>>=◌ (records table_follows 20 table) (λ rs. ◌>>◌ (judged l (table_of rs)) (ok (passed_of p l (table_of rs))))))
        ≡ ◌>>=◌ (◌>>=◌ m (λ p. ◌>>=◌ (layout p)
        (λ l. ◌>>=◌ (records table_follows 20 table) (λ rs. ◌>>◌ (shaped l (table_of rs)) (ok (passed_of p l (table_of rs)))))))
        then_timed
    by-plan (ok p) = by_layout p table (layout p)
    by-plan (refuse n q) = refl

-- what passes is located
pub passed_located : (plan table : List ℕ) (c : Passed) → check_files plan table ≡ ok c → located plan table ≡ ok c
passed_located plan table c e =
    bind_case (located plan table) then_timed (sym (located_then plan table) ∙ e) λ d q r.
    then_case (timed d.layout d.table) (ok d) r λ _ _ same. q ∙ same

-- ---- which numbers

pub located-gives : (plan table : List ℕ) → Gives 1 24 (located plan table)
unfolding located
located-gives plan table =
    gives_bind (gives-within (lit≤ tt) (lit≤ tt) (read-gives (is_for_consumers table) plan)) λ p.
    gives_bind (gives-within (lit≤ tt) (lit≤ tt) (layout-gives p)) λ l.
    gives_bind (gives-within (lit≤ tt) (lit≤ tt) (records_give table_follows 20 table)) λ rs.
    gives_then (gives-within (lit≤ tt) (lit≤ tt) (shaped-gives l (table_of rs))) (gives-ok _)

-- the answer passes, or is a refusal from 25 to 28
pub data PassesOrLate : Res Passed → Type 0 where
  passes : {m : Res Passed} {c : Passed} → m ≡ ok c → PassesOrLate m
  late : {m : Res Passed} {n p : ℕ} → m ≡ refuse n p → 25 ≤ n → n ≤ 28 → PassesOrLate m

either : (m : Res Passed) → Gives 25 28 m → PassesOrLate m
either (ok c) g = passes refl
either (refuse n p) g = let w = g.number n p refl in late refl w.0 w.1

module _ (m : Res Passed) (low : Gives 1 24 m) where
  timed-late : (c : Passed) → Gives 25 28 (then_timed c)
  timed-late c = gives_then (timed-gives c.layout c.table) (gives-ok c)

  printed_then : (c : Passed) × (m ≡ ok c) → PassesOrLate (◌>>=◌ m then_timed)
  printed_then h = subst PassesOrLate (sym (bind_ok then_timed h.1)) (either (then_timed h.0) (timed-late h.0))

  then_printed : PassesOrLate (◌>>=◌ m then_timed) → (c : Passed) × (m ≡ ok c)
  then_printed (passes e) = bind_case m then_timed e (λ c q r. (c, q))
  then_printed (late {n = n} {p = p} e h k) =
      bind_refused m then_timed e (λ q. absurd (omega (arith, (low.number n p q).1, h))) (λ c q r. (c, q))

  early_then : (n p : ℕ) → m ≡ refuse n p → (◌>>=◌ m then_timed ≡ refuse n p) × (n ≤ 24)
  early_then n p e = (bind_refuse then_timed e, (low.number n p e).1)

  then_early : (n p : ℕ) → (◌>>=◌ m then_timed ≡ refuse n p) × (n ≤ 24) → m ≡ refuse n p
  then_early n p h =
      bind_refused m then_timed h.0 (λ q. q) (λ c q r. absurd (omega (arith, ((timed-late c).number n p r).0, h.1)))

-- a sheet is printed exactly where the checker passes the table or refuses it with a number from 25 to 28
pub printed_exactly : (plan table : List ℕ) → ((c : Passed) × (located plan table ≡ ok c)) ↔ PassesOrLate (check_files plan table)
printed_exactly plan table =
    let m = located plan table in
    let low = located-gives plan table in
    let same = located_then plan table in
    (λ h. rw same (printed_then m low h), λ h. then_printed m low (subst PassesOrLate same h))

-- any other refusal is the checker's, and has a number up to 24
pub refused_exactly : (plan table : List ℕ) (n p : ℕ)
    → (located plan table ≡ refuse n p) ↔ ((check_files plan table ≡ refuse n p) × (n ≤ 24))
refused_exactly plan table n p =
    let m = located plan table in
    let low = located-gives plan table in
    let same = located_then plan table in
    (λ e. rw same (early_then m low n p e), λ h. then_early m low n p (rw same at h.0, h.1))

-- 25 to 28 name a row, so the place is at most the last row's record
pub timed-places : (l : Layout) (t : TableRead) → PlacesTo (last_row t) (timed l t)
unfolding timed rows_keep first_row last_row
timed-places l t =
    let below : 1 + length t.control + length t.rows ≤ suc (length t.control + length t.rows) = omega arith in
    places_then (places-at 25 (1 + length t.control) (length t.rows) (release_kept l t) below)
    (places_then (places-at 26 (1 + length t.control) (length t.rows) (deadline_kept t) below)
    (places_then (places-at 27 (1 + length t.control) (length t.rows) (gap_kept l t) below)
    (places-unless 28 (length t.control + length t.rows) (last_kept l t) (omega arith))))

-- ---- what is located

pub record LocatedAs (plan table : List ℕ) (c : Passed) : Type 0 where
  pub is_read : read_in (is_for_consumers table) plan ≡ ok c.plan
  pub is_laid : layout c.plan ≡ ok c.layout
  pub traffic : traffic c.plan ≡ c.traffic
  pub rs : List Rec
  pub are_records : records table_follows 20 table ≡ ok rs
  pub is_table : table_of rs ≡ c.table
  pub is_shaped : shaped c.layout c.table ≡ ok tt

pub located_as : (plan table : List ℕ) (c : Passed) → located plan table ≡ ok c → LocatedAs plan table c
unfolding located
located_as plan table c e =
    bind_case (read_in (is_for_consumers table) plan) _ e λ p is_read e₁.
    bind_case (layout p) _ e₁ λ l is_laid e₂.
    bind_case (records table_follows 20 table) _ e₂ λ rs are_records e₃.
    then_case (shaped l (table_of rs)) _ e₃ λ u is_shaped e₄.
    subst (LocatedAs plan table) (ok_injective e₄)
    (record {
      is_read = is_read;
      is_laid = is_laid;
      traffic = refl;
      rs = rs;
      are_records = are_records;
      is_table = refl;
      is_shaped = is_shaped;
    })

-- every row keeps 23 and 24, as tests
pub record RowsKept (l : Layout) (t : TableRead) : Type 0 where
  pub names : (k : ℕ) → k < length t.rows → names_new l t k ≡ true
  pub times : (k : ℕ) → k < length t.rows → time_kept l t k ≡ true

rows-kept : (l : Layout) (t : TableRead) → shaped l t ≡ ok tt → RowsKept l t
unfolding shaped rows_keep
rows-kept l t e =
    then_case (unless 21 0 (header_right l t)) _ e λ _ _ e₁.
    then_case (at 22 1 (first_bad (control_kept l t) (up_to (length t.control)))) _ e₁ λ _ _ e₂.
    then_case (at 23 (first_row t) (first_bad (names_new l t) (up_to (length t.rows)))) _ e₂ λ _ named timed.
    record {
      names = λ k w. first_bad-up_to-passes (names_new l t) (length t.rows) k (at_ok 23 (first_row t) _ named) w;
      times = λ k w. first_bad-up_to-passes (time_kept l t) (length t.rows) k (at_ok 24 (first_row t) _ timed) w;
    }

module _ {plan table : List ℕ} {c : Passed} (h : LocatedAs plan table c) where
  pub plan-kept : PlanKept c.plan
  plan-kept = readable_kept_in (is_for_consumers table) plan c.plan h.is_read

  pub plan-laid : LaidOut c.plan c.layout
  plan-laid = laid_out c.plan c.layout h.is_laid

  pub located_single : Single c.table
  located_single = subst Single h.is_table (table_single h.rs)

  -- 21 to 24
  shape_kept : AllKept (shape_rules c.layout (sorted-pairs c.plan c.layout h.is_laid) c.table)
  shape_kept = (shaped_exact c.layout (sorted-pairs c.plan c.layout h.is_laid) c.table).says h.is_shaped

  pub located-header : HeaderIsRight c.layout c.table
  located-header = shape_kept.0.each 0 (omega arith)

  pub located-control : (k : ℕ) → k < length c.table.control → IsFixed c.layout c.table k
  located-control = shape_kept.1.0.each

  pub located-rows : RowsKept c.layout c.table
  located-rows = rows-kept c.layout c.table h.is_shaped

  -- what is located has no more rows than there may be
  pub few-control : length c.table.control ≤ most_nodes
  unfolding layout_of
  few-control =
      let is : length (control_rows c.plan) ≡ length c.layout.control = ap (λ (l : Layout). length l.control) plan-laid.is in
      omega (arith, located-header.control_rows, is, control-count c.plan, plan-kept.node_count.most)

  pub few-rows : length c.table.rows ≤ most_frames
  unfolding layout_of pairs
  few-rows =
      let is : length (pairs c.plan) ≡ length c.layout.pairs = ap (λ (l : Layout). length l.pairs) plan-laid.is in
      omega (arith, located-header.data_rows, is, plan-laid.few)

  -- ---- a data row holds one pair, which is one of the plan's

  pub holds-one : (k : ℕ) → k < length c.table.rows → (row_at c.table k).holds ≡ (row_at c.table k).opens ∷ []
  unfolding row_at
  holds-one k w = all_get_d no_row located_single k w

  apart : (f : Pair) → c.layout.together (f ∷ []) ≡ true
  unfolding layout_of
  apart f = sym (ap (λ (l : Layout). l.together (f ∷ [])) plan-laid.is)

  pub opens-named : (k : ℕ) → k < length c.table.rows → NamedFound c.layout.pairs (row_at c.table k).opens
  unfolding single_new
  opens-named k w =
      let new = sym (new_single c.layout c.table located_single k w apart) ∙ located-rows.names k w in
      named-found c.layout.pairs (row_at c.table k).opens
      (both_left (any (is_pair_of (row_at c.table k).opens) c.layout.pairs) _ new)

  pub opens-pair : (k : ℕ) → k < length c.table.rows → Memᴰ (named_in c.layout.pairs (row_at c.table k).opens) (pairs c.plan)
  unfolding layout_of pairs
  opens-pair k w =
      let one = named_in c.layout.pairs (row_at c.table k).opens in
      subst (λ (l : Layout). Memᴰ one l.pairs) (sym plan-laid.is) (opens-named k w).among
