-- SingleRows: rules 23 to 26 on a table each of whose rows holds one pair, the one that opens it. Behind 23 every row names a pair, so 24
-- may take a time by task that is right for the pairs.
use mathlib.Core.Path.{◌≡◌, refl, sym, ap, ◌∙◌}
use mathlib.Core.Bool.{Bool, true, not, ◌&&◌}
use mathlib.Core.List.{List, [], ◌∷◌, map}
use lib.Dec.{eqb, leb}
use lib.ListN.{length, take}
use Prim.Native.Nat.{ℕ, ◌+◌, ◌<◌}
use Rattle.laws.specs.Res.{Res, ok, refuse, ◌>>◌, unless, at}
use Rattle.laws.specs.Lists.{any, joined, first_bad, up_to}
use Rattle.laws.specs.Numbers.{divides}
use Rattle.laws.proofs.Lists.{both_left, and-true, or-false}
use Rattle.laws.proofs.Loops.{first_bad-up_to-passes}
use Rattle.laws.proofs.Members.{All, empty, also, all_member, all_get_d, all_take}
use Rattle.laws.proofs.Res.{at_ok}
use Rattle.laws.proofs.Turns.{same_bad}
use Rattle.rules.specs.Records.{Rec}
use Rattle.rules.specs.Plan.{things}
use Rattle.rules.specs.Frames.{Pair, Layout}
use Rattle.rules.specs.LatestRelease.{time_alone}
use Rattle.rules.specs.Table.{DataRow}
use Rattle.rules.specs.Checker.{
  Named,
  Row,
  row_of,
  TableRead,
  data_row_of,
  table_of,
  header_right,
  control_kept,
  no_row,
  row_at,
  is_pair_of,
  same_name,
  holds_of,
  held_before,
  is_new,
  named_in,
  pairs_of_row,
  names_new,
  time_kept,
  is_released_by,
  release_kept,
  is_due_from,
  deadline_kept,
  gap_kept,
  last_kept,
  first_row,
  last_row,
  rows_keep,
  shaped,
  timed,
  judged,
  holds_pair,
}
use Rattle.rules.proofs.CheckerExact.{named-found}

-- a row holds the pair that opens it, and no other
abbrev pub OpensAlone : Row → Type 0
OpensAlone r = r.holds ≡ r.opens ∷ []

abbrev pub Single : TableRead → Type 0
Single t = All OpensAlone t.rows

pub rows_single : (ds : List DataRow) → All OpensAlone (map row_of ds)
unfolding row_of
rows_single [] = empty
rows_single (d ∷ ds) = also refl (rows_single ds)

-- a table that was read
pub table_single : (rs : List Rec) → Single (table_of rs)
unfolding table_of
table_single rs = rows_single (map data_row_of (things 18 rs))

-- ---- the rules in the terms of the pair that opens a row

-- two rows are opened by one pair
unfoldable pub opens_same : Row → Row → Bool
opens_same r s = same_name r.opens s.opens

unfoldable pub single_new : List Pair → TableRead → ℕ → Bool
single_new pairs t k =
    any (is_pair_of (row_at t k).opens) pairs && not (any (opens_same (row_at t k)) (take k t.rows))

unfoldable pub single_time : Layout → (ℕ → ℕ) → TableRead → ℕ → Bool
single_time l time t k =
    eqb (row_at t k).stop ((row_at t k).start + time (named_in l.pairs (row_at t k).opens).task)
    && divides l.grid (row_at t k).start

unfoldable pub single_release : List Pair → TableRead → ℕ → Bool
single_release pairs t k = leb (named_in pairs (row_at t k).opens).release (row_at t k).start

unfoldable pub single_deadline : TableRead → ℕ → Bool
single_deadline t k = leb (row_at t k).stop (row_at t k).opens.deadline

-- refusals 21 to 28 over them, where a task has one time
unfoldable pub single_judged : Layout → (ℕ → ℕ) → TableRead → Res (Unit {0})
single_judged l time t = do
  unless 21 0 (header_right l t)
  at 22 1 (first_bad (control_kept l t) (up_to (length t.control)))
  rows_keep 23 t (single_new l.pairs t)
  rows_keep 24 t (single_time l time t)
  rows_keep 25 t (single_release l.pairs t)
  rows_keep 26 t (single_deadline t)
  rows_keep 27 t (gap_kept l t)
  unless 28 (last_row t) (last_kept l t)

-- ---- rule by rule

-- the pairs that rows hold are those that open them
any_held : (n : Named) (rs : List Row) → All OpensAlone rs → any (same_name n) (joined (map holds_of rs)) ≡ any (λ r. same_name n r.opens) rs
any_held n [] empty = refl
any_held n (r ∷ rs) (also e h) = rw (e, any_held n rs h)

module _ (l : Layout) (t : TableRead) (single : Single t) (k : ℕ) (w : k < length t.rows) where
  row_single : (row_at t k).holds ≡ (row_at t k).opens ∷ []
  unfolding row_at
  row_single = all_get_d no_row single k w

  -- 23, where a pair may have a row of its own
  pub new_single : ((f : Pair) → l.together (f ∷ []) ≡ true) → names_new l t k ≡ single_new l.pairs t k
  unfolding names_new is_new pairs_of_row held_before single_new opens_same
  new_single apart =
      rw (
        row_single,
        apart (named_in l.pairs (row_at t k).opens),
        any_held (row_at t k).opens (take k t.rows) (all_take k single),
        and-true (single_new l.pairs t k && true),
      )
      (and-true (single_new l.pairs t k))

  -- 24
  pub time_single : (time : ℕ → ℕ) → time_alone l (named_in l.pairs (row_at t k).opens) ≡ time (named_in l.pairs (row_at t k).opens).task
      → time_kept l t k ≡ single_time l time t k
  unfolding time_kept pairs_of_row time_alone single_time
  time_single time e = rw (row_single, e)

  -- 25
  pub release_single : release_kept l t k ≡ single_release l.pairs t k
  unfolding release_kept pairs_of_row is_released_by single_release
  release_single = rw (row_single) (and-true (single_release l.pairs t k))

  -- 26
  pub deadline_single : deadline_kept t k ≡ single_deadline t k
  unfolding deadline_kept is_due_from single_deadline
  deadline_single = rw (row_single) (and-true (single_deadline t k))

-- the row that holds a pair is the one that it opens
pub holds_single : (f : Pair) (r : Row) → OpensAlone r → holds_pair f r ≡ is_pair_of r.opens f
unfolding holds_pair
holds_single f r e = rw e (or-false (is_pair_of r.opens f))

-- ---- the whole judgement

-- what only matters where all before it is accepted
behind : (m : Res (Unit {0})) {x y : Res (Unit {0})} → (m ≡ ok tt → x ≡ y) → ◌>>◌ m x ≡ ◌>>◌ m y
behind (ok u) h = h refl
behind (refuse n p) h = refl

in_line : (a b c d e : Res (Unit {0})) → ◌>>◌ (◌>>◌ a (◌>>◌ b (◌>>◌ c d))) e ≡ ◌>>◌ a (◌>>◌ b (◌>>◌ c (◌>>◌ d e)))
in_line (refuse n p) b c d e = refl
in_line (ok u) (refuse n p) c d e = refl
in_line (ok u) (ok v) (refuse n p) d e = refl
in_line (ok u) (ok v) (ok w) d e = refl

rows_same : (number : ℕ) (t : TableRead) (here there : ℕ → Bool) → ((k : ℕ) → k < length t.rows → here k ≡ there k)
    → rows_keep number t here ≡ rows_keep number t there
unfolding rows_keep
rows_same number t here there same = rw (same_bad here there (length t.rows) same)

module _ (l : Layout) (apart : (f : Pair) → l.together (f ∷ []) ≡ true) (t : TableRead) (single : Single t) (time : ℕ → ℕ)
    (right : All (λ f. time_alone l f ≡ time f.task) l.pairs) where
  -- a row that keeps 23 names a pair
  time-named : (k : ℕ) → k < length t.rows → names_new l t k ≡ true
      → time_alone l (named_in l.pairs (row_at t k).opens) ≡ time (named_in l.pairs (row_at t k).opens).task
  unfolding single_new
  time-named k w e =
      let new : single_new l.pairs t k ≡ true = sym (new_single l t single k w apart) ∙ e in
      all_member right
      (named-found l.pairs (row_at t k).opens
      (both_left (any (is_pair_of (row_at t k).opens) l.pairs) (not (any (opens_same (row_at t k)) (take k t.rows))) new)).among

  times-same : rows_keep 23 t (names_new l t) ≡ ok tt → rows_keep 24 t (time_kept l t) ≡ rows_keep 24 t (single_time l time t)
  unfolding rows_keep
  times-same e =
      let named = at_ok 23 (first_row t) (first_bad (names_new l t) (up_to (length t.rows))) e in
      rows_same 24 t (time_kept l t) (single_time l time t)
      (λ k w. time_single l t single k w time
      (time-named k w (first_bad-up_to-passes (names_new l t) (length t.rows) k named w)))

  -- refusals 24 to 28
  abbrev rows_timed : Res (Unit {0})
  rows_timed =
      ◌>>◌ (rows_keep 24 t (single_time l time t)) (◌>>◌ (rows_keep 25 t (single_release l.pairs t))
      (◌>>◌ (rows_keep 26 t (single_deadline t)) (◌>>◌ (rows_keep 27 t (gap_kept l t)) (unless 28 (last_row t) (last_kept l t)))))

  times-judged : rows_keep 23 t (names_new l t) ≡ ok tt → ◌>>◌ (rows_keep 24 t (time_kept l t)) (timed l t) ≡ rows_timed
  unfolding timed
  times-judged e =
      rw (
        times-same e,
        rows_same 25 t (release_kept l t) (single_release l.pairs t) (release_single l t single),
        rows_same 26 t (deadline_kept t) (single_deadline t) (deadline_single l t single),
      )

  names-judged : ◌>>◌ (rows_keep 23 t (names_new l t)) (◌>>◌ (rows_keep 24 t (time_kept l t)) (timed l t))
      ≡ ◌>>◌ (rows_keep 23 t (single_new l.pairs t)) rows_timed
  names-judged =
      behind (rows_keep 23 t (names_new l t)) times-judged
      ∙ ap (λ (m : Res (Unit {0})). ◌>>◌ m rows_timed)
      (rows_same 23 t (names_new l t) (single_new l.pairs t) (λ k w. new_single l t single k w apart))

  pub judged_single : judged l t ≡ single_judged l time t
  unfolding judged shaped single_judged
  judged_single =
      let header = unless 21 0 (header_right l t) in
      let control = at 22 1 (first_bad (control_kept l t) (up_to (length t.control))) in
      in_line header control (rows_keep 23 t (names_new l t)) (rows_keep 24 t (time_kept l t)) (timed l t)
      ∙ ap (λ (m : Res (Unit {0})). ◌>>◌ header (◌>>◌ control m)) names-judged
