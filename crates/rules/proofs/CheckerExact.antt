-- CheckerExact: each test of 21 to 28 means its rule, so the checker passes exactly the tables that keep all of them, and gives a number
-- exactly where its rule is the first that is broken, at the lowest record.
use mathlib.Core.Path.{◌≡◌, refl, sym, ap, ◌∙◌, subst}
use mathlib.Core.Bool.{Bool, true, false}
use mathlib.Core.List.{List, [], ◌∷◌, map, Memᴰ}
use mathlib.Core.Logic.{◌⊎◌, inl, inr, ◌↔◌}
use native.Mathlib.Omega.{arith}
use borrow.Author.Tests.{le-leb, lt-leb}
use lib.ListN.{length, get_or, take, drop}
use lib.Seq.{length-take-le, get_or-take}
use Prim.Native.Nat.{ℕ, ◌+◌, ◌≤◌, ◌<◌}
use Rattle.laws.specs.Res.{Res, ok, refuse}
use Rattle.laws.specs.Lists.{any}
use Rattle.laws.specs.Faults.{Rule, IsKept, AllKept, CountUp}
use Rattle.laws.proofs.Lists.{true-false, all_map, any-joined}
use Rattle.laws.proofs.Tests.{Tests, by_iff, by_itself, by_and, by_not, by_any, by_eq, by_le, by_divides, by_each, by_some}
use Rattle.laws.proofs.Res.{refuse≢ok, refuse-number, refuse-place, bind_case, then_case, bind_refused, then_refused}
use Rattle.laws.proofs.Faults.{Exact, exact_rule, exact_once, exact_then, fault_of_rule, rule_of_fault, exact_join}
use Rattle.laws.proofs.Orders.{le-or-lt}
use Rattle.laws.proofs.Members.{Pairs, member_get_or}
use Rattle.rules.specs.Limits.{most_frames}
use Rattle.rules.specs.Records.{records, table_follows}
use Rattle.rules.specs.Plan.{Plan}
use Rattle.rules.specs.Traffic.{traffic, read_in}
use Rattle.rules.specs.Frames.{Pair, ControlRow, Layout, layout, layout_of, pairs_of, pairs}
use Rattle.rules.specs.LatestRelease.{no_pair}
use Rattle.rules.specs.Table.{FrameRow}
use Rattle.rules.specs.Checker.{Named, TableRead, table_of, header_right, control_at, no_row, row_at, same_control, control_kept, is_pair_of, same_name, holds_of, held_before, is_new, named_in, pairs_of_row, names_new, time_kept, is_released_by, release_kept, is_due_from, deadline_kept, stop_before, gap_kept, last_kept, last_row, rows_keep, shaped, timed, judged, Passed, check_files, check_outcome, check, is_for_consumers}
use Rattle.rules.specs.Obeys.{
  pair_at,
  Names,
  Holds,
  NamesAll,
  no_name,
  one_name,
  HeaderIsRight,
  IsFixed,
  NamesNew,
  TimeIsRight,
  IsReleased,
  IsInTime,
  IsSpaced,
  EndsInTime,
  ObeysTable,
  rows_ask,
  table_rules,
  MayPass,
  CheckFault,
  of_plan,
  of_layout,
  of_records,
  of_table,
  UnreadAt,
  no_rule,
  BrokenAt,
}
use Rattle.rules.proofs.PairsOf.{Before, one_of_a_pair, plan-pairs}
use Rattle.rules.proofs.LaidOut.{laid_out}
use Rattle.rules.proofs.RefusalNumbers.{layout-gives, judged-gives, read-gives}
use Rattle.rules.proofs.RecordsExact.{records_exact, records-refused}

-- ---- each rule

module _ (l : Layout) (t : TableRead) where
  -- 21
  header_means : Tests (header_right l t) (HeaderIsRight l t)
  unfolding header_right
  header_means =
      by_iff
      (by_and (by_eq t.period l.period)
      (by_and (by_and (by_eq t.controls (length l.control)) (by_eq t.datas (length l.pairs)))
      (by_and (by_eq (length t.control) (length l.control)) (by_eq (length t.rows) (length l.pairs)))))
      (λ h. record { period = h.0; controls = h.1.0.0; datas = h.1.0.1; control_rows = h.1.1.0; data_rows = h.1.1.1 })
      (λ h. (h.period, ((h.controls, h.datas), (h.control_rows, h.data_rows))))

  -- 22
  same_means : (a b : ControlRow) → Tests (same_control a b) (a ≡ b)
  unfolding same_control
  same_means a b =
      by_iff (by_and (by_eq a.node b.node) (by_and (by_eq a.start b.start) (by_eq a.stop b.stop)))
      (λ h i. record { node = h.0 i; start = h.1.0 i; stop = h.1.1 i })
      (λ e. (ap (λ (r : ControlRow). r.node) e, (ap (λ (r : ControlRow). r.start) e, ap (λ (r : ControlRow). r.stop) e)))

  control_means : (k : ℕ) → k < length t.control → Tests (control_kept l t k) (IsFixed l t k)
  unfolding control_kept
  control_means k w = same_means (control_at t.control k) (control_at l.control k)

  -- 23
  pair_means : (n : Named) (f : ℕ) → f < length l.pairs → Tests (is_pair_of n (get_or l.pairs f no_pair)) (Names l n f)
  unfolding is_pair_of pair_at
  pair_means n f w =
      by_iff (by_and (by_eq n.task (pair_at l f).task) (by_eq n.deadline (pair_at l f).deadline))
      (λ h. record { there = w; task = h.0; deadline = h.1 })
      (λ h. (h.task, h.deadline))

  pair-among : (n : Named) → Tests (any (is_pair_of n) l.pairs) ((f : ℕ) × (f < length l.pairs) × Names l n f)
  pair-among n = by_any (is_pair_of n) l.pairs no_pair (pair_means n)

  abbrev SameName : Named → Named → Type 0
  SameName n m = (m.task ≡ n.task) × (m.deadline ≡ n.deadline)

  name_means : (n m : Named) → Tests (same_name n m) (SameName n m)
  unfolding same_name
  name_means n m =
      by_iff (by_and (by_eq n.task m.task) (by_eq n.deadline m.deadline)) (λ h. (sym h.0, sym h.1))
      (λ h. (sym h.0, sym h.1))

  abbrev HeldBy : Named → ℕ → Type 0
  HeldBy n j = (m : Named) × Holds t j m × SameName n m

  held_means : (k : ℕ) (n : Named) → k < length t.rows
      → Tests (any (same_name n) (held_before t k)) ((j : ℕ) × (j < length (take k t.rows)) × HeldBy n j)
  unfolding held_before row_at
  held_means k n w =
      let cut : length (take k t.rows) ≡ k = length-take-le k t.rows (omega arith) in
      rw (any-joined (same_name n) holds_of (take k t.rows))
      (by_any (λ r. any (same_name n) (holds_of r)) (take k t.rows) no_row
      (λ j v. let below : j < k = omega (arith, cut) in
      rw (get_or-take k t.rows j no_row below) (by_some (same_name n) (row_at t j).holds (name_means n))))

  -- a name stands for a pair that no row before the k-th holds
  abbrev IsNew : ℕ → Named → Type 0
  IsNew k n =
      ((f : ℕ) × (f < length l.pairs) × Names l n f)
      × ((j : ℕ) × (j < length (take k t.rows)) × HeldBy n j → ⊥)

  new_means : (k : ℕ) → k < length t.rows → (n : Named) → Tests (is_new l t k n) (IsNew k n)
  unfolding is_new
  new_means k w n = by_and (pair-among n) (by_not (held_means k n w))

-- the pair that a name stands for is found
pub record NamedFound (fs : List Pair) (n : Named) : Type 0 where
  pub among : Memᴰ (named_in fs n) fs
  pub task : n.task ≡ (named_in fs n).task
  pub deadline : n.deadline ≡ (named_in fs n).deadline

named_here : (b : Bool) (f : Pair) (fs : List Pair) (n : Named) → is_pair_of n f ≡ b → (b ≡ false → NamedFound fs n)
    → NamedFound (f ∷ fs) n
unfolding named_in is_pair_of
named_here true f fs n e rest =
    let pair = (by_and (by_eq n.task f.task) (by_eq n.deadline f.deadline)).says e in
    record { among = rw e (Memᴰ.head refl); task = rw e pair.0; deadline = rw e pair.1 }
named_here false f fs n e rest =
    let r = rest refl in
    record { among = rw e (Memᴰ.tail r.among); task = rw e r.task; deadline = rw e r.deadline }

pub named-found : (fs : List Pair) (n : Named) → any (is_pair_of n) fs ≡ true → NamedFound fs n
named-found [] n e = true-false (sym e)
named-found (f ∷ fs) n e = named_here (is_pair_of n f) f fs n refl (λ q. named-found fs n (rw q at e))

-- names that stand for pairs have each its own
names_member : (l : Layout) {ns : List Named} {fs : List Pair} → NamesAll l ns fs → (n : Named) → Memᴰ n ns → (f : ℕ) × Names l n f
names_member l (one_name {f} h r) n (Memᴰ.head e) = (f, subst (λ (n : Named). Names l n f) (sym e) h)
names_member l (one_name h r) n (Memᴰ.tail m) = names_member l r n m
names_member l no_name n x4 = elim x4 [ ]

module _ (l : Layout) (sorted : Pairs Before l.pairs) (t : TableRead) where
  -- no second pair has the name
  pub named-is : (n : Named) (f : ℕ) → Names l n f → named_in l.pairs n ≡ pair_at l f
  unfolding pair_at
  named-is n f h =
      let named = named-found l.pairs n ((pair-among l t n).passes (f, h.there, h)) in
      one_of_a_pair sorted (named_in l.pairs n) (pair_at l f) named.among (member_get_or l.pairs no_pair f h.there)
      (sym named.task ∙ h.task)
      (sym named.deadline ∙ h.deadline)

  pub names_are : {ns : List Named} {fs : List Pair} → NamesAll l ns fs → map (named_in l.pairs) ns ≡ fs
  names_are no_name = refl
  names_are (one_name {n} {f} h r) = λ i. named-is n f h i ∷ names_are r i

  names-all : (ns : List Named) → ((n : Named) → Memᴰ n ns → (f : ℕ) × Names l n f) → NamesAll l ns (map (named_in l.pairs) ns)
  names-all [] h = no_name
  names-all (n ∷ ns) h =
      let here = h n (Memᴰ.head refl) in
      subst (λ (f : Pair). NamesAll l (n ∷ ns) (f ∷ map (named_in l.pairs) ns)) (sym (named-is n here.0 here.1))
      (one_name here.1 (names-all ns (λ m i. h m (Memᴰ.tail i))))

  names_means : (k : ℕ) → k < length t.rows → Tests (names_new l t k) (NamesNew l t k)
  unfolding names_new pairs_of_row
  names_means k w =
      let cut : length (take k t.rows) ≡ k = length-take-le k t.rows (omega arith) in
      let held = (row_at t k).holds in
      by_iff (by_and (by_each (is_new l t k) held (new_means l t k w)) (by_itself (l.together (pairs_of_row l t k))))
      (λ h. record {
        pairs = pairs_of_row l t k;
        names = names-all held (λ n i. let f = (h.0 n i).0 in (f.0, f.2));
        new = λ n m j i v q a b. (h.0 n i).1 (j, rw cut v, (m, q, (a, b)));
        together = h.1;
      })
      (λ h. (
        λ n i. let f = names_member l h.names n i in (
          (f.0, f.1.there, f.1),
          λ q. h.new n q.2.0 q.0 i (rw cut at q.1) q.2.1 q.2.2.0 q.2.2.1,
        ),
        rw (names_are h.names) h.together,
      ))

  -- 24
  time_means : (k : ℕ) → NamesNew l t k → Tests (time_kept l t k) (TimeIsRight l t k)
  unfolding time_kept pairs_of_row
  time_means k n =
      let row = row_at t k in
      let ends : List Pair → ℕ = λ fs. row.start + l.time fs in
      by_iff (by_and (by_eq row.stop (row.start + l.time (pairs_of_row l t k))) (by_divides l.grid row.start))
      (λ h. record { stop = λ fs m. h.0 ∙ ap ends (names_are m); grid = h.1 })
      (λ h. (h.stop n.pairs n.names ∙ sym (ap ends (names_are n.names)), h.grid))

  -- 25
  release_means : (k : ℕ) → NamesNew l t k → Tests (release_kept l t k) (IsReleased l t k)
  unfolding release_kept pairs_of_row is_released_by
  release_means k n =
      let row = row_at t k in
      let named = named_in l.pairs in
      rw (all_map named (is_released_by row.start) row.holds)
      (by_iff (by_each (λ m. is_released_by row.start (named m)) row.holds (λ m. by_le (named m).release row.start))
      (λ h m f i s. rw (← named-is m f s) (h m i))
      (λ h m i. let f = names_member l n.names m i in rw (named-is m f.0 f.1) (h m f.0 i f.1)))

  -- 26, 27
  deadline_means : (k : ℕ) → Tests (deadline_kept t k) (IsInTime t k)
  unfolding deadline_kept is_due_from
  deadline_means k = by_each (is_due_from (row_at t k).stop) (row_at t k).holds (λ n. by_le (row_at t k).stop n.deadline)

  gap_means : (k : ℕ) → Tests (gap_kept l t k) (IsSpaced l t k)
  unfolding gap_kept
  gap_means k = by_le (stop_before t k + l.gap) (row_at t k).start

  -- 28
  last_means : Tests (last_kept l t) (EndsInTime l t)
  unfolding last_kept
  last_means = by_le (stop_before t (length t.rows) + l.gap) l.period

  -- the rules of the shape, 21 to 24, and of the times, 25 to 28
  abbrev pub shape_rules : List Rule
  shape_rules = take 4 (table_rules l t)

  abbrev pub time_rules : List Rule
  time_rules = drop 4 (table_rules l t)

  pub shaped_exact : Exact (shaped l t) shape_rules
  unfolding shaped rows_keep
  shaped_exact =
      exact_then (exact_once 21 0 (header_means l t)) λ h₂₁.
      exact_then
      (exact_rule (record { number = 22; first = 1; places = length t.control; asks = IsFixed l t }) (control_kept l t) (control_means l t)) λ h₂₂.
      exact_then (exact_rule (rows_ask 23 t (NamesNew l t)) (names_new l t) names_means) λ h₂₃.
      exact_rule (rows_ask 24 t (TimeIsRight l t)) (time_kept l t) (λ k w. time_means k (h₂₃.each k w))

  -- where the rows name pairs
  pub timed_exact : IsKept (rows_ask 23 t (NamesNew l t)) → Exact (timed l t) time_rules
  unfolding timed rows_keep
  timed_exact named =
      exact_then (exact_rule (rows_ask 25 t (IsReleased l t)) (release_kept l t) (λ k w. release_means k (named.each k w))) λ h₂₅.
      exact_then (exact_rule (rows_ask 26 t (IsInTime t)) (deadline_kept t) (λ k w. deadline_means k)) λ h₂₆.
      exact_then (exact_rule (rows_ask 27 t (IsSpaced l t)) (gap_kept l t) (λ k w. gap_means k)) λ h₂₇.
      exact_once 28 (last_row t) last_means

  pub judged_exact : Exact (judged l t) (table_rules l t)
  unfolding judged
  judged_exact = exact_join shape_rules shaped_exact (λ h. timed_exact h.1.1.0)

  -- the list of rules and the record of them say the same
  pub obeys-kept : ObeysTable l t → AllKept (table_rules l t)
  obeys-kept h = (
    record { each = λ k w. h.header },
    (
      record { each = h.control },
      (
        record { each = h.names },
        (
          record { each = h.time },
          (
            record { each = h.released },
            (
              record { each = h.in_time },
              (
                record { each = h.spaced },
                (record { each = λ k w. h.ends }, tt),
              ),
            ),
          ),
        ),
      ),
    ),
  )

  pub kept-obeys : AllKept (table_rules l t) → ObeysTable l t
  kept-obeys h =
      record {
        header = h.0.each 0 (omega arith);
        control = h.1.0.each;
        names = h.1.1.0.each;
        time = h.1.1.1.0.each;
        released = h.1.1.1.1.0.each;
        in_time = h.1.1.1.1.1.0.each;
        spaced = h.1.1.1.1.1.1.0.each;
        ends = h.1.1.1.1.1.1.1.0.each 0 (omega arith);
      }

-- ---- plan and table

-- the frames of a plan that is laid out stand in strict order
pub sorted-pairs : (p : Plan) (l : Layout) → layout p ≡ ok l → Pairs Before l.pairs
unfolding layout_of pairs_of pairs
sorted-pairs p l e = subst (λ (l : Layout). Pairs Before l.pairs) (laid_out p l e).is (plan-pairs p).sorted

module _ (plan table : List ℕ) where
  pub passed_says : (c : Passed) → check_files plan table ≡ ok c → MayPass plan table
  unfolding check_files
  passed_says c e =
      bind_case (read_in (is_for_consumers table) plan) _ e λ p is_read e₁.
      bind_case (layout p) _ e₁ λ l is_laid e₂.
      bind_case (records table_follows 20 table) _ e₂ λ rs are_rows e₃.
      then_case (judged l (table_of rs)) _ e₃ λ _ is_judged e₄.
      let sorted = sorted-pairs p l is_laid in
      record {
        read = p;
        is_read = is_read;
        laid = l;
        is_laid = is_laid;
        rows = rs;
        are_rows = (records_exact table_follows 20 table rs).0 are_rows;
        obeys = kept-obeys l sorted (table_of rs) ((judged_exact l sorted (table_of rs)).says is_judged);
      }

  -- what is handed on when the table passes
  abbrev passed_of : MayPass plan table → Passed
  passed_of h = record { plan = h.read; traffic = traffic h.read; layout = h.laid; table = table_of h.rows }

  pub passed_passes : (h : MayPass plan table) → check_files plan table ≡ ok (passed_of h)
  unfolding check_files
  passed_passes h =
      let sorted = sorted-pairs h.read h.laid h.is_laid in
      let t = table_of h.rows in
      let is_table = (records_exact table_follows 20 table h.rows).1 h.are_rows in
      rw (h.is_read, h.is_laid, is_table, (judged_exact h.laid sorted t).passes (obeys-kept h.laid sorted t h.obeys))

  pub passed_faults : (n p : ℕ) → check_files plan table ≡ refuse n p → CheckFault plan table n p
  unfolding check_files
  passed_faults n p e =
      bind_refused (read_in (is_for_consumers table) plan) _ e of_plan λ q is_read e₁.
      bind_refused (layout q) _ e₁ (of_layout is_read) λ l is_laid e₂.
      bind_refused (records table_follows 20 table) _ e₂
      (λ f. let b = (records-refused table_follows 20 table n p).0 f in of_records is_read is_laid b.0 b.1) λ rs are_rows e₃.
      let sorted = sorted-pairs q l is_laid in
      then_refused (judged l (table_of rs)) _ e₃
      (λ f. of_table is_read is_laid ((records_exact table_follows 20 table rs).0 are_rows) ((judged_exact l sorted (table_of rs)).refuses n p f))
      (λ _ _ f. refuse≢ok (sym f))

  pub fault_refuses : (n p : ℕ) → CheckFault plan table n p → check_files plan table ≡ refuse n p
  unfolding check_files
  fault_refuses n p (of_plan e) = rw e
  fault_refuses n p (of_layout a e) = rw (a, e)
  fault_refuses n p (of_records a b e f) = rw (a, b, (records-refused table_follows 20 table n p).1 (e, f))
  fault_refuses n p (of_table {q} {l} {rs} a b c f) =
      let sorted = sorted-pairs q l b in
      rw (a, b, (records_exact table_follows 20 table rs).1 c, (judged_exact l sorted (table_of rs)).refused n p f)

-- ---- the checker

module _ (plan table : List ℕ) (rows : List FrameRow) where
  pub lent-enough : most_frames ≤ length rows → check plan table rows ≡ check_outcome (check_files plan table) rows
  unfolding check
  lent-enough h = rw (le-leb most_frames (length rows) h, check)

  pub lent-short : length rows < most_frames → check plan table rows ≡ record { answer = refuse 19 most_frames; rows = rows }
  unfolding check
  lent-short h = rw (lt-leb most_frames (length rows) h, check)

  answer_ok : (m : Res Passed) → (check_outcome m rows).answer ≡ ok tt → (c : Passed) × (m ≡ ok c)
  answer_ok (ok c) e = (c, refl)
  answer_ok (refuse n p) e = refuse≢ok e

  answer-refused : (m : Res Passed) (n p : ℕ) → (check_outcome m rows).answer ≡ refuse n p → m ≡ refuse n p
  answer-refused (ok c) n p e = refuse≢ok (sym e)
  answer-refused (refuse m q) n p e = rw (refuse-number e, refuse-place e)

  passes-only : (most_frames ≤ length rows) ⊎ (length rows < most_frames) → (check plan table rows).answer ≡ ok tt → (most_frames ≤ length rows) × MayPass plan table
  passes-only (inl h) e = let c = answer_ok (check_files plan table) (rw (lent-enough h) at e) in (h, passed_says plan table c.0 c.1)
  passes-only (inr h) e = let f : refuse 19 most_frames ≡ ok tt = rw (lent-short h) at e in refuse≢ok f

  passes-all : (most_frames ≤ length rows) × MayPass plan table → (check plan table rows).answer ≡ ok tt
  passes-all h = rw (lent-enough h.0, passed_passes plan table h.1)

  -- the checker passes exactly the tables of laid out plans that keep every rule
  pub checker_exact : ((check plan table rows).answer ≡ ok tt) ↔ ((most_frames ≤ length rows) × MayPass plan table)
  checker_exact = (passes-only (le-or-lt most_frames (length rows)), passes-all)

  -- 19 before all; else the first fault
  abbrev pub CheckRefuses : ℕ → ℕ → Type 0
  CheckRefuses n p = ((length rows < most_frames) × (n ≡ 19) × (p ≡ most_frames)) ⊎ ((most_frames ≤ length rows) × CheckFault plan table n p)

  refuses-only : (most_frames ≤ length rows) ⊎ (length rows < most_frames) → (n p : ℕ) → (check plan table rows).answer ≡ refuse n p → CheckRefuses n p
  refuses-only (inl h) n p e = inr (h, passed_faults plan table n p (answer-refused (check_files plan table) n p (rw (lent-enough h) at e)))
  refuses-only (inr h) n p e =
      let f : refuse 19 most_frames ≡ refuse n p = rw (lent-short h) at e in
      inl (h, sym (refuse-number f), sym (refuse-place f))

  refuses-all : (n p : ℕ) → CheckRefuses n p → (check plan table rows).answer ≡ refuse n p
  refuses-all n p (inl h) = rw (lent-short h.0, h.1, h.2)
  refuses-all n p (inr h) = rw (lent-enough h.0, fault_refuses plan table n p h.1)

  pub checker_refuses : (n p : ℕ) → ((check plan table rows).answer ≡ refuse n p) ↔ CheckRefuses n p
  checker_refuses n p = (refuses-only (le-or-lt most_frames (length rows)) n p, refuses-all n p)

-- ---- each number for itself

pub rules_count-up : (l : Layout) (t : TableRead) → CountUp 21 (table_rules l t)
rules_count-up l t = (refl, (refl, (refl, (refl, (refl, (refl, (refl, (refl, tt))))))))

module _ (plan table : List ℕ) where
  fault_twenty : (p : ℕ) → CheckFault plan table 20 p → UnreadAt plan table p
  fault_twenty p (of_plan e) = absurd (omega (arith, (read-gives (is_for_consumers table) plan).number 20 p e))
  fault_twenty p (of_layout {q} a e) = absurd (omega (arith, (layout-gives q).number 20 p e))
  fault_twenty p (of_records {q} {l} a b e f) = record { read = q; is_read = a; laid = l; is_laid = b; unread = f }
  fault_twenty p (of_table {q} {l} {rs} a b c f) =
      absurd (omega (arith, (judged-gives l (table_of rs)).number 20 p ((judged_exact l (sorted-pairs q l b) (table_of rs)).refused 20 p f)))

  fault_rule : (i p : ℕ) → i < 8 → CheckFault plan table (21 + i) p → BrokenAt plan table i p
  fault_rule i p w (of_plan e) = absurd (omega (arith, (read-gives (is_for_consumers table) plan).number (21 + i) p e))
  fault_rule i p w (of_layout {q} a e) = absurd (omega (arith, (layout-gives q).number (21 + i) p e))
  fault_rule i p w (of_records a b e f) = absurd (omega (arith, e))
  fault_rule i p w (of_table {q} {l} {rs} a b c f) =
      let t = table_of rs in
      let r = fault_of_rule no_rule 21 i p (table_rules l t) (rules_count-up l t) w f in
      record { read = q; is_read = a; laid = l; is_laid = b; rows = rs; are_rows = c; kept = r.0; broken = r.1 }

  rule_fault : (i p : ℕ) → i < 8 → BrokenAt plan table i p → CheckFault plan table (21 + i) p
  rule_fault i p w h =
      of_table h.is_read h.is_laid h.are_rows
      (rule_of_fault no_rule 21 i p (table_rules h.laid (table_of h.rows)) w (h.kept, h.broken))

module _ (plan table : List ℕ) (rows : List FrameRow) where
  -- the first fault, where enough rows are lent
  faults : (n p : ℕ) → 20 ≤ n → (check plan table rows).answer ≡ refuse n p → (most_frames ≤ length rows) × CheckFault plan table n p
  faults n p w e = lent ((checker_refuses plan table rows n p).0 e)
    where
      lent : CheckRefuses plan table rows n p → (most_frames ≤ length rows) × CheckFault plan table n p
      lent (inl h) = absurd (omega (arith, h.1))
      lent (inr h) = h

  -- 20: the plan passes 1 to 11, and the table breaks the record rules, first there
  pub unread_exact : (p : ℕ) → ((check plan table rows).answer ≡ refuse 20 p) ↔ ((most_frames ≤ length rows) × UnreadAt plan table p)
  unread_exact p = (
    λ e. let f = faults 20 p (omega arith) e in (f.0, fault_twenty plan table p f.1),
    λ h. (checker_refuses plan table rows 20 p).1 (inr (h.0, of_records h.1.is_read h.1.is_laid refl h.1.unread)),
  )

  -- 21 to 28: the rules before are kept, and this one is broken, first there
  pub rule_exact : (i p : ℕ) → i < 8 → ((check plan table rows).answer ≡ refuse (21 + i) p) ↔ ((most_frames ≤ length rows) × BrokenAt plan table i p)
  rule_exact i p w = (
    λ e. let f = faults (21 + i) p (omega arith) e in (f.0, fault_rule plan table i p w f.1),
    λ h. (checker_refuses plan table rows (21 + i) p).1 (inr (h.0, rule_fault plan table i p w h.1)),
  )
