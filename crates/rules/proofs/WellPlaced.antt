-- WellPlaced: a table whose rows are placed well (`Obeys.PlacedWell`) keeps 21 to 28, whatever placed them and however many pairs a row
-- holds; and the frame rows that the checker takes from it are those of the placing. Nothing here knows of bytes.
use mathlib.Core.Path.{◌≡◌, refl, sym, ap, ◌∙◌, subst}
use mathlib.Core.Bool.{Bool, true, false, cond}
use mathlib.Core.List.Memᴰ
use mathlib.Core.List.{List, [], ◌∷◌, ◌++◌, map, Memᴰ}
use mathlib.Core.Logic.{◌⊎◌, inl, inr}
use native.Mathlib.Nat.{not-suc-le-zero, le_of_suc-le-suc, zero-add, add-zero, add-suc, suc-add}
use native.Mathlib.Omega.{arith}
use borrow.Author.Tests.{eqb-true, eqb-false}
use lib.Dec.{eqb}
use lib.ListN.{length, get_or, length-map}
use Prim.Native.Nat.{ℕ, zero, suc, ◌+◌, ◌≤◌, ◌<◌, zero-le, suc-le-suc}
use Rattle.laws.specs.Lists.{any, joined, last_d}
use Rattle.laws.proofs.Tests.{by_same, by_and, by_eq}
use Rattle.laws.proofs.Orders.{le-or-lt}
use Rattle.laws.proofs.Members.{
  Pairs,
  alone,
  before,
  all_member,
  all_of_members,
  pairs-get_or,
  member_get_or,
  member_map,
  map-get_or,
  source,
  Differ,
  each-once,
}
use Rattle.laws.proofs.Places.{member_joined}
use Rattle.rules.specs.Frames.{Pair, no_control_row, Layout}
use Rattle.rules.specs.LatestRelease.{Numbered, no_pair, no_numbered}
use Rattle.rules.specs.Table.{PlacedRow, pair_of_numbered, held_in, pairs_in, is_number, start_for, rows_from}
use Rattle.rules.specs.Checker.{Named, Row, TableRead, row_at, stop_before, no_row as no_table_row, is_pair_of, holds_pair, row_holding, checked_row}
use Rattle.rules.specs.Obeys.{
  pair_at,
  Names,
  Holds,
  NamesAll,
  no_name,
  one_name,
  NamesNew,
  TimeIsRight,
  IsReleased,
  IsInTime,
  IsSpaced,
  ObeysTable,
  IsPair,
  stop_of,
  RowPlacedWell,
  Spaced,
  no_row,
  one_row,
  next_row,
  number_of_pair,
  numbers_in,
  PlacedWell,
}
use Rattle.rules.proofs.PairsOf.{Before, before-not-same}
use Rattle.rules.proofs.CheckerExact.{names_are}

-- ---- the table of placed rows

abbrev pub name_of_pair : Numbered → Named
name_of_pair x = record { task = x.pair.task; deadline = x.pair.deadline }

-- a placed row as a table has it
abbrev pub row_placed : Layout → PlacedRow → Row
row_placed l r = record { opens = name_of_pair r.opens; holds = map name_of_pair (held_in r); start = r.start; stop = stop_of l r }

abbrev pub table_placed : Layout → List PlacedRow → TableRead
table_placed l rows =
    record {
      period = l.period;
      controls = length l.control;
      datas = length rows;
      control = l.control;
      rows = map (row_placed l) rows;
    }

abbrev no_placed_row : PlacedRow
no_placed_row = record { opens = no_numbered; others = []; start = 0 }

-- ---- no pair is in two rows

-- the one holds no pair that the other holds
abbrev Apart : PlacedRow → PlacedRow → Type 0
Apart r s = (x y : Numbered) → Memᴰ x (held_in r) → Memᴰ y (held_in s) → x.number ≡ y.number → ⊥

apart-first : (xs ys : List Numbered) → Pairs Differ (map number_of_pair (xs ++ ys)) → (x y : Numbered) → Memᴰ x xs → Memᴰ y ys
    → x.number ≡ y.number → ⊥
apart-first (z ∷ xs) ys (before a d) x y (Memᴰ.head e) j q =
    all_member a (member_map number_of_pair (Memᴰ.append_right xs j)) (ap number_of_pair (sym e) ∙ q)
apart-first (z ∷ xs) ys (before a d) x y (Memᴰ.tail i) j q = apart-first xs ys d x y i j q
apart-first [] ys _ x y x7 j q = elim x7 [ ]

differ_rest : (xs ys : List Numbered) → Pairs Differ (map number_of_pair (xs ++ ys)) → Pairs Differ (map number_of_pair ys)
differ_rest [] ys d = d
differ_rest (x ∷ xs) ys (before a d) = differ_rest xs ys d

rows_apart : (rows : List PlacedRow) → Pairs Differ (numbers_in rows) → Pairs Apart rows
unfolding numbers_in
rows_apart [] d = alone
rows_apart (r ∷ rows) d =
    let rest = joined (map held_in rows) in
    before
    (all_of_members rows
    (λ s m x y i j. apart-first (held_in r) rest d x y i (member_joined (map held_in rows) j (member_map held_in m))))
    (rows_apart rows (differ_rest (held_in r) rest d))

-- ---- the rules, row by row

module _ (l : Layout) (sorted : Pairs Before l.pairs) where
  -- a pair's name stands for it
  names-one : (x : Numbered) → IsPair l x → Names l (name_of_pair x) x.number
  names-one x k =
      record { there = k.there; task = sym (ap (λ (f : Pair). f.task) k.is); deadline = sym (ap (λ (f : Pair). f.deadline) k.is) }

  names-all : (xs : List Numbered) → ((x : Numbered) → Memᴰ x xs → IsPair l x) → NamesAll l (map name_of_pair xs) (map pair_of_numbered xs)
  names-all [] k = no_name
  names-all (x ∷ xs) k =
      let here = k x (Memᴰ.head refl) in
      subst (λ (f : Pair). NamesAll l (map name_of_pair (x ∷ xs)) (f ∷ map pair_of_numbered xs)) here.is
      (one_name (names-one x here) (names-all xs (λ y m. k y (Memᴰ.tail m))))

  -- pairs of different numbers have different names
  other_name : (a b : ℕ) → a < length l.pairs → b < length l.pairs → (a ≡ b → ⊥) → (pair_at l a).task ≡ (pair_at l b).task
      → (pair_at l a).deadline ≡ (pair_at l b).deadline → ⊥
  unfolding pair_at
  other_name a b v w n e d = either (le-or-lt b a)
    where
      either : (b ≤ a) ⊎ (a < b) → ⊥
      either (inl q) =
          let less : b < a = omega arith in
          before-not-same (pair_at l b) (pair_at l a) (sym e) (sym d) (pairs-get_or no_pair sorted b a less v)
      either (inr q) = before-not-same (pair_at l a) (pair_at l b) e d (pairs-get_or no_pair sorted a b q w)

  -- so its name stands for no other
  same_number : (x : Numbered) → IsPair l x → (f : ℕ) → Names l (name_of_pair x) f → x.number ≡ f
  same_number x k f n = by (eqb x.number f) refl
    where
      by : (b : Bool) → eqb x.number f ≡ b → x.number ≡ f
      by true e = eqb-true x.number f e
      by false e =
          let own = names-one x k in
          absurd
          (other_name x.number f k.there n.there (eqb-false x.number f e) (sym own.task ∙ n.task)
          (sym own.deadline ∙ n.deadline))

  module _ (rows : List PlacedRow) (well : PlacedWell l rows) where
    abbrev t : TableRead
    t = table_placed l rows

    abbrev put : ℕ → PlacedRow
    put j = get_or rows j no_placed_row

    rows-count : length t.rows ≡ length rows
    rows-count = length-map rows (row_placed l)

    module _ (j : ℕ) (w : j < length rows) where
      row_well : RowPlacedWell l (put j)
      row_well = well.rows_well (put j) (member_get_or rows no_placed_row j w)

      row_is : row_at t j ≡ row_placed l (put j)
      unfolding row_at
      row_is = map-get_or (row_placed l) rows no_placed_row no_table_row j w

      -- a pair in the row, by its name
      record Held (n : Named) : Type 0 where
        one : Numbered
        among : Memᴰ one (held_in (put j))
        named : name_of_pair one ≡ n

      held : (n : Named) → Holds t j n → Held n
      held n i =
          let s = source name_of_pair (held_in (put j)) (rw row_is at i) in
          record { one = s.one; among = s.among; named = s.gives }

      names : NamesAll l (row_at t j).holds (pairs_in (put j))
      unfolding pairs_in
      names = rw row_is (names-all (held_in (put j)) row_well.known)

      time : TimeIsRight l t j
      unfolding stop_of
      time =
          record {
            stop =
                λ fs m.
                let same : pairs_in (put j) ≡ fs = sym (names_are l sorted t names) ∙ names_are l sorted t m in
                rw row_is (ap (λ (fs : List Pair). (put j).start + l.time fs) same);
            grid = rw row_is row_well.on_grid;
          }

      released : IsReleased l t j
      released n f i s =
          let h = held n i in
          let k = row_well.known h.one h.among in
          let same : h.one.number ≡ f = same_number h.one k f (subst (λ (n : Named). Names l n f) (sym h.named) s) in
          let pair : h.one.pair ≡ pair_at l f = sym k.is ∙ ap (pair_at l) same in
          rw (row_is, ← pair) (row_well.released h.one h.among)

      in-time : IsInTime t j
      in-time n i = let h = held n i in rw (row_is, ← h.named) (row_well.in_time h.one h.among)

    -- no row before holds one of its pairs
    abbrev apart : Pairs Apart rows
    apart = rows_apart rows (each-once (length l.pairs) (numbers_in rows) well.some well.once)

    new : (j : ℕ) → j < length rows → (n m : Named) (i : ℕ) → Holds t j n → i < j → Holds t i m → m.task ≡ n.task
        → m.deadline ≡ n.deadline → ⊥
    new j w n m i a v b e d =
        let u : i < length rows = omega arith in
        let x = held j w n a in
        let y = held i u m b in
        let own = names-one x.one ((row_well j w).known x.one x.among) in
        let same =
        same_number y.one ((row_well i u).known y.one y.among) x.one.number
        (record {
          there = own.there;
          task = ap (λ (n : Named). n.task) y.named ∙ e ∙ sym (ap (λ (n : Named). n.task) x.named) ∙ own.task;
          deadline = ap (λ (n : Named). n.deadline) y.named ∙ d ∙ sym (ap (λ (n : Named). n.deadline) x.named) ∙ own.deadline;
        }) in
        pairs-get_or no_placed_row apart i j v w y.one x.one y.among x.among same

    names-new : (j : ℕ) → j < length rows → NamesNew l t j
    names-new j w = record { pairs = pairs_in (put j); names = names j w; new = new j w; together = (row_well j w).together }

    gap-between : {rows : List PlacedRow} → Spaced l rows → (j : ℕ) → suc j < length rows
        → stop_of l (get_or rows j no_placed_row) + l.gap ≤ (get_or rows (suc j) no_placed_row).start
    gap-between no_row j w = absurd (not-suc-le-zero w)
    gap-between one_row j w = absurd (not-suc-le-zero (le_of_suc-le-suc w))
    gap-between (next_row g s) zero w = g
    gap-between (next_row g s) (suc j) w = gap-between s j (le_of_suc-le-suc w)

    module _ (behind : (last_d l.control no_control_row).stop + l.gap ≤ l.floor) where
      spaced : (j : ℕ) → j < length rows → IsSpaced l t j
      spaced zero w = rw (row_is 0 w) (omega (arith, behind, (row_well 0 w).behind_control))
      spaced (suc j) w =
          let v : j < length rows = omega arith in
          let stop : (row_at t j).stop ≡ stop_of l (put j) = ap (λ (r : Row). r.stop) (row_is j v) in
          let start : (row_at t (suc j)).start ≡ (put (suc j)).start = ap (λ (r : Row). r.start) (row_is (suc j) w) in
          rw (stop, start) (gap-between well.spaced j w)

      -- the last row stops by the end, or is a control row
      ends : l.floor ≤ l.period → l.end + l.gap ≤ l.period → (n : ℕ) → n ≤ length rows → stop_before t n + l.gap ≤ l.period
      ends low closes zero w = omega (arith, behind)
      ends low closes (suc j) w =
          let stop : (row_at t j).stop ≡ stop_of l (put j) = ap (λ (r : Row). r.stop) (row_is j w) in
          rw stop (omega (arith, (row_well j w).by_end))

      -- where C lies a gap behind the last control row and within P, the end a gap before P, and there are as many rows as pairs
      pub well_obeys : l.floor ≤ l.period → l.end + l.gap ≤ l.period → length rows ≡ length l.pairs → ObeysTable l t
      well_obeys low closes count =
          record {
            header = record { period = refl; controls = refl; datas = count; control_rows = refl; data_rows = rows-count ∙ count };
            control = λ j w. refl;
            names = λ j w. names-new j (rw rows-count at w);
            time = λ j w. time j (rw rows-count at w);
            released = λ j w. released j (rw rows-count at w);
            in_time = λ j w. in-time j (rw rows-count at w);
            spaced = λ j w. spaced j (rw rows-count at w);
            ends = ends low closes (length t.rows) (omega (arith, rows-count));
          }

    -- ---- the frame rows

    -- a name is that of pair f exactly where f is its number
    name-number : (f : ℕ) → f < length l.pairs → (x : Numbered) → IsPair l x → is_pair_of (name_of_pair x) (pair_at l f) ≡ is_number f x
    unfolding is_pair_of is_number
    name-number f w x k =
        by_same
        (by_and (by_eq x.pair.task (pair_at l f).task) (by_eq x.pair.deadline (pair_at l f).deadline))
        (by_eq x.number f)
        (λ e. same_number x k f (record { there = w; task = e.0; deadline = e.1 }))
        (λ e. let q : x.pair ≡ pair_at l f = sym k.is ∙ ap (pair_at l) e in (ap (λ (g : Pair). g.task) q, ap (λ (g : Pair). g.deadline) q))

    any-number : (f : ℕ) → f < length l.pairs → (xs : List Numbered) → ((x : Numbered) → Memᴰ x xs → IsPair l x)
        → any (λ n. is_pair_of n (pair_at l f)) (map name_of_pair xs) ≡ any (is_number f) xs
    any-number f w [] k = refl
    any-number f w (x ∷ xs) k =
        rw (name-number f w x (k x (Memᴰ.head refl)), any-number f w xs (λ y m. k y (Memᴰ.tail m)))

    start-of : (b : Bool) (r s : Row) → (cond b r s).start ≡ cond b r.start s.start
    start-of true r s = refl
    start-of false r s = refl

    start-same : (f : ℕ) → f < length l.pairs → (rs : List PlacedRow) → ((r : PlacedRow) → Memᴰ r rs → RowPlacedWell l r)
        → (row_holding (map (row_placed l) rs) (pair_at l f)).start ≡ start_for rs f
    unfolding row_holding start_for holds_pair
    start-same f w [] k = refl
    start-same f w (r ∷ rs) k =
        start-of (any (λ n. is_pair_of n (pair_at l f)) (map name_of_pair (held_in r))) (row_placed l r)
        (row_holding (map (row_placed l) rs) (pair_at l f))
        ∙ rw
        (any-number f w (held_in r) (k r (Memᴰ.head refl)).known, start-same f w rs (λ s m. k s (Memᴰ.tail m)))

    rows-from : (n : ℕ) (fs : List Pair)
        → ((j : ℕ) → j < length fs → (n + j < length l.pairs) × (get_or l.pairs (n + j) no_pair ≡ get_or fs j no_pair))
        → map (checked_row t) fs ≡ rows_from rows n fs
    unfolding checked_row rows_from pair_at
    rows-from n [] e = refl
    rows-from n (f ∷ fs) e =
        let first = e 0 (suc-le-suc zero-le) in
        let w : n < length l.pairs = rw (add-zero n) at first.0 in
        let is : pair_at l n ≡ f = rw (add-zero n) at first.1 in
        let start : (row_holding t.rows f).start ≡ start_for rows n =
        ap (λ (f : Pair). (row_holding t.rows f).start) (sym is) ∙ start-same n w rows well.rows_well in
        let rest : map (checked_row t) fs ≡ rows_from rows (suc n) fs =
        rows-from (suc n) fs (λ j v. rw (suc-add n j, ← add-suc n j) (e (suc j) (suc-le-suc v))) in
        rw (start, rest)

    pub well_rows : map (checked_row t) l.pairs ≡ rows_from rows 0 l.pairs
    well_rows = rows-from 0 l.pairs (λ j w. rw (zero-add j) (w, refl))
