-- PairRows: the rows of a table that keeps 21 to 28, whatever its layout. They stand one behind the other, behind the control rows, and the
-- row that is found for a pair holds it. Where no row is empty and there are as many rows as pairs, each pair is in a row.
use mathlib.Core.Path.{◌≡◌, refl, sym, ap, ◌∙◌, subst}
use mathlib.Core.Bool.{Bool, true, false}
use mathlib.Core.List.{List, [], ◌∷◌, Memᴰ}
use mathlib.Core.Logic.{◌⊎◌, inl, inr}
use native.Mathlib.Nat.{not-suc-le-zero, le_of_suc-le-suc, zero-lt-suc}
use native.Mathlib.Omega.{arith}
use borrow.Author.Tests.{ltb-true, ltb-false}
use lib.Dec.{ltb}
use lib.ListN.{length, length-map, get_or}
use Prim.Native.Nat.{ℕ, zero, suc, ◌+◌, ◌≤◌, ◌<◌, suc-le-suc}
use Rattle.laws.specs.Lists.{last_d, up_to}
use Rattle.laws.proofs.Lists.{true-false, tested, length-up_to}
use Rattle.laws.proofs.Members.{
  All,
  Chain,
  all_weaker,
  all_member,
  all_get_d,
  all_of_places,
  all_map,
  all-up_to,
  any_member,
  any-among,
  pairs-map,
  pairs-get_or,
  chain_of_places,
  chain_pairs,
  source,
  pigeonhole,
  Differ,
}
use Rattle.laws.proofs.Places.{pairs-tab}
use Rattle.laws.proofs.Tests.{Tests, by_and, by_eq}
use Rattle.rules.specs.Frames.{Pair, no_control_row, Layout}
use Rattle.rules.specs.Checker.{Named, Row, no_row, TableRead, row_at, is_pair_of, holds_pair, row_holding}
use Rattle.rules.specs.Obeys.{pair_at, Names, Holds, NamesAll, no_name, one_name, ObeysTable}

-- ---- one behind the other

-- a row does not stop before it starts
abbrev pub Lasts : Row → Type 0
Lasts r = r.start ≤ r.stop

-- the second starts a gap or more behind the stop of the first
abbrev pub Follows : ℕ → Row → Row → Type 0
Follows gap r s = r.stop + gap ≤ s.start

module _ (l : Layout) (tr : TableRead) (obeys : ObeysTable l tr) where
  pub rows_last : All Lasts tr.rows
  unfolding row_at
  rows_last =
      all_of_places tr.rows no_row (λ r w. let n = obeys.names r w in omega (arith, (obeys.time r w).stop n.pairs n.names))

  pub rows_chain : Chain (Follows l.gap) tr.rows
  unfolding row_at
  rows_chain = chain_of_places tr.rows no_row (λ k w. obeys.spaced (suc k) w)

  pub rows_apart : (j r : ℕ) → j < r → r < length tr.rows → (row_at tr j).stop ≤ (row_at tr r).start
  unfolding row_at
  rows_apart j r h w =
      let apart = chain_pairs {P = Lasts} (λ x y z a p b. omega arith) rows_last rows_chain in
      omega (arith, pairs-get_or no_row apart j r h w)

  pub row-behind : (r : ℕ) → r < length tr.rows → (last_d tr.control no_control_row).stop + l.gap ≤ (row_at tr r).start
  unfolding row_at
  row-behind zero w = obeys.spaced 0 w
  row-behind (suc r) w =
      let first : 0 < length tr.rows = omega arith in
      omega (arith, obeys.spaced 0 first, all_get_d no_row rows_last 0 first, rows_apart 0 (suc r) (zero-lt-suc r) w)

-- ---- the row that holds a pair

-- row r holds pair f
pub record HoldsPair (l : Layout) (tr : TableRead) (f r : ℕ) : Type 0 where
  pub there : r < length tr.rows
  pub name : Named
  pub holds : Holds tr r name
  pub names : Names l name f

-- and is the one that is found
pub record RidesIn (l : Layout) (tr : TableRead) (f r : ℕ) : Type 0 where
  pub is : row_holding tr.rows (pair_at l f) ≡ row_at tr r
  pub holds : HoldsPair l tr f r

is-pair : (n : Named) (f : Pair) → Tests (is_pair_of n f) ((n.task ≡ f.task) × (n.deadline ≡ f.deadline))
unfolding is_pair_of
is-pair n f = by_and (by_eq n.task f.task) (by_eq n.deadline f.deadline)

-- among rows, one of which holds the pair, the first that does is found
record FoundAt (rows : List Row) (f : Pair) : Type 0 where
  at : ℕ
  within : at < length rows
  is : row_holding rows f ≡ get_or rows at no_row
  holds : holds_pair f (get_or rows at no_row) ≡ true

found_at : (rows : List Row) (f : Pair) (r : ℕ) → r < length rows → holds_pair f (get_or rows r no_row) ≡ true → FoundAt rows f
unfolding row_holding
found_at [] f r w e = absurd (not-suc-le-zero w)
found_at (x ∷ rows) f r w e = here (holds_pair f x) refl r w e (found_at rows f)
  where
    here : (b : Bool) → holds_pair f x ≡ b → (r : ℕ) → r < length (x ∷ rows) → holds_pair f (get_or (x ∷ rows) r no_row) ≡ true
        → ((r : ℕ) → r < length rows → holds_pair f (get_or rows r no_row) ≡ true → FoundAt rows f) → FoundAt (x ∷ rows) f
    here true q r w e rest = record { at = 0; within = zero-lt-suc (length rows); is = rw q; holds = q }
    here false q zero w e rest = true-false (sym e ∙ q)
    here false q (suc r) w e rest =
        let h = rest r (le_of_suc-le-suc w) e in
        record { at = suc h.at; within = suc-le-suc h.within; is = rw q h.is; holds = h.holds }

module _ (l : Layout) (tr : TableRead) where
  holds-says : (f r : ℕ) → f < length l.pairs → r < length tr.rows → holds_pair (pair_at l f) (row_at tr r) ≡ true → HoldsPair l tr f r
  unfolding holds_pair
  holds-says f r v w e =
      let found = any_member (λ n. is_pair_of n (pair_at l f)) (row_at tr r).holds e in
      let same = (is-pair found.one (pair_at l f)).says found.passes in
      record { there = w; name = found.one; holds = found.among; names = record { there = v; task = same.0; deadline = same.1 } }

  holds-passes : (f r : ℕ) → HoldsPair l tr f r → holds_pair (pair_at l f) (row_at tr r) ≡ true
  unfolding holds_pair
  holds-passes f r h =
      any-among (λ n. is_pair_of n (pair_at l f)) h.holds ((is-pair h.name (pair_at l f)).passes (h.names.task, h.names.deadline))

  pub rides : (f r : ℕ) → HoldsPair l tr f r → (x : ℕ) × RidesIn l tr f x
  unfolding row_at
  rides f r h =
      let found = found_at tr.rows (pair_at l f) r h.there (holds-passes f r h) in
      (found.at, record { is = found.is; holds = holds-says f found.at h.names.there found.within found.holds })

-- ---- each pair has a row

module _ (l : Layout) (tr : TableRead) (obeys : ObeysTable l tr) (never-empty : l.together [] ≡ false) where
  -- a pair that the row holds
  first-held : (r : ℕ) → r < length tr.rows → (f : ℕ) × HoldsPair l tr f r
  first-held r w = go (row_at tr r).holds refl (obeys.names r w).names (obeys.names r w).together
    where
      go : (ns : List Named) → (row_at tr r).holds ≡ ns → {fs : List Pair} → NamesAll l ns fs → l.together fs ≡ true → (f : ℕ) × HoldsPair l tr f r
      go [] e no_name t = true-false (sym t ∙ never-empty)
      go (n ∷ ns) e (one_name {f} h rest) t =
          (f, record { there = w; name = n; holds = subst (Memᴰ n) (sym e) (Memᴰ.head refl); names = h })

  numbered : (r : ℕ) → (ltb r (length tr.rows) ≡ true) ⊎ (ltb r (length tr.rows) ≡ false) → ℕ
  numbered r (inl e) = (first-held r (ltb-true r (length tr.rows) e)).0
  numbered r (inr e) = 0

  number : ℕ → ℕ
  number r = numbered r (tested (ltb r (length tr.rows)))

  number-held : (r : ℕ) → r < length tr.rows → HoldsPair l tr (number r) r
  unfolding number numbered
  number-held r w = go (tested (ltb r (length tr.rows)))
    where
      go : (b : (ltb r (length tr.rows) ≡ true) ⊎ (ltb r (length tr.rows) ≡ false)) → HoldsPair l tr (numbered r b) r
      go (inl e) = (first-held r (ltb-true r (length tr.rows) e)).1
      go (inr e) = absurd (omega (arith, ltb-false r (length tr.rows) e))

  numbers_differ : (j r : ℕ) → j < r → r < length tr.rows → Differ (number j) (number r)
  numbers_differ j r h w e =
      let a = number-held j (omega arith) in
      let b = number-held r w in
      (obeys.names r w).new b.name a.name j b.holds h a.holds
      (a.names.task ∙ ap (λ (f : ℕ). (pair_at l f).task) e ∙ sym b.names.task)
      (a.names.deadline ∙ ap (λ (f : ℕ). (pair_at l f).deadline) e ∙ sym b.names.deadline)

  pub pair_row : (f : ℕ) → f < length l.pairs → (r : ℕ) × HoldsPair l tr f r
  pair_row f w =
      let rows = length tr.rows in
      let s = source number (up_to rows)
      (pigeonhole (length l.pairs) f
      (pairs-map number {R = Differ} (pairs-tab (λ k. k) 0 rows (λ j k a b c. numbers_differ j k b (omega arith))))
      (all_map number (all_weaker (λ r h. (number-held r h).names.there) (all-up_to rows)))
      (length-map (up_to rows) number ∙ length-up_to rows ∙ obeys.header.data_rows)
      w) in
      (s.one, subst (λ (g : ℕ). HoldsPair l tr g s.one) s.gives (number-held s.one (all_member (all-up_to rows) s.among)))
