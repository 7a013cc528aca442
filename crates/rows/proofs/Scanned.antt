-- The numbers of a pass that carries a Bool; what the scan for rule 25 and the clearing come to.
use mathlib.Core.Path.{◌≡◌, refl, sym, ap, ◌∙◌}
use mathlib.Core.Bool.{Bool, true, false, cond}
use mathlib.Core.List.{List, []}
use mathlib.Core.Logic.{◌⊎◌, inl, inr}
use native.Mathlib.Nat.{zero-add}
use native.Mathlib.Numerals.{add-one}
use native.Mathlib.Omega.{arith}
use lib.Dec.{ltb, lit≤}
use lib.ListN.{length, get_or, take, drop, replicate, length-replicate, length-append, length-drop, get_or-replicate}
use lib.Seq.{ext_get_or}
use Rattle.std.proofs.Common.{◌||◌, ◌++◌, ◌-◌}
use Rattle.std.specs.List.{list_any}
use Rattle.std.proofs.lemmas.List.{length-take-le, get_or-drop, get_or-append_right, get_or_append_left}
use Rattle.std.proofs.lemmas.List.Folds.{list_any_more}
use borrow.Author.Tests.{ltb-false}
use Prim.Native.Nat.{ℕ, zero, suc, ◌+◌, ◌≤◌, ◌<◌, zero-le}
use Rattle.rules.specs.Limits.{most_frames}
use Rattle.laws.specs.Lists.{tab}
use Rattle.laws.specs.Loops.{stores}
use Rattle.laws.proofs.Lists.{neither_left, neither_right, length-tab, get_or-tab}
use Rattle.laws.proofs.Orders.{le-or-lt}
use Rattle.laws.proofs.Loops.{stores_at, stores_beyond, length-stores}
use Rattle.laws.proofs.Stores.{stores-idle}
use Rattle.laws.proofs.Arrays.{tab_list}
use Rattle.rows.specs.Rows.{Rows}
use Rattle.rows.specs.Rows.{rows_laid}
use Rattle.units.specs.declared.Frame.{Frame}
use Rattle.rows.specs.Frames.{zero_frame, frame_at, frame_in, end_of, filled}
use Rattle.rows.specs.Passes.{found_in, passed_row, found_after, rows_after, looked_row, cleared_row}
use Rattle.rows.proofs.Filled.{within_all, end_short, end-frames, frame_there, frame_behind, filled-few, filled-all}

or-false : (b : Bool) → (b || false) ≡ b
or-false true = refl
or-false false = refl

or-last : (a b c : Bool) → (a || (b || c)) ≡ (c || (a || b))
or-last true b true = refl
or-last true b false = refl
or-last false true true = refl
or-last false true false = refl
or-last false false true = refl
or-last false false false = refl

-- ---- the scan for rule 25

-- it leaves the rows
pub looked-rows : (n : ℕ) (b : Bool) (ys : List Frame) → rows_after looked_row n b ys ≡ ys
unfolding rows_after passed_row looked_row
looked-rows n b ys = sym (stores-idle ys (passed_row looked_row b ys) (end_of n (length ys)) zero_frame (λ k _. refl))

-- whether the start of a row lies before its release
abbrev pub early : Frame → Bool
early row = ltb row.start.0 row.release.0

-- what it finds is whether one of the rows is early
looked-found : (b : Bool) (ys : List Frame) (n : ℕ) → n ≤ length ys → (b || list_any early (take n ys)) ≡ found_in looked_row b ys n
unfolding found_in looked_row
looked-found b ys zero h = or-false b
looked-found b ys (suc n) h =
    let last = list_any_more early ys n zero_frame h in
    rw (← add-one n, last, ← looked-found b ys n (omega arith)) (or-last b (list_any early (take n ys)) (early (get_or ys n zero_frame)))

module _ (n k : ℕ) {b : Bool} (ys : List Frame) (e : k ≡ end_of n (length ys)) (h : k ≤ length ys) where
  pub looked-before : b ≡ true → b ≡ found_after looked_row n b ys
  unfolding found_after
  looked-before q = rw (q, ← e) (looked-found true ys k h)

  pub looked-now : {r : Bool} → b ≡ false → r ≡ list_any early (take k ys) → r ≡ found_after looked_row n b ys
  unfolding found_after
  looked-now q w = rw (q, w, ← e) (looked-found false ys k h)

-- where it finds nothing, no row that it has seen is early
none_found : (ys : List Frame) (n : ℕ) → found_in looked_row false ys n ≡ false → (k : ℕ) → k < n → (get_or ys k zero_frame).release.0 ≤ (get_or ys k zero_frame).start.0
unfolding found_in looked_row
none_found ys zero e k h = absurd (omega arith)
none_found ys (suc n) e k h = here (le-or-lt n k)
    (none_found ys n (neither_right (ltb (get_or ys n zero_frame).start.0 (get_or ys n zero_frame).release.0) (found_in looked_row false ys n) e) k)
  where
    last : ltb (get_or ys n zero_frame).start.0 (get_or ys n zero_frame).release.0 ≡ false
    last = neither_left (ltb (get_or ys n zero_frame).start.0 (get_or ys n zero_frame).release.0) (found_in looked_row false ys n) e

    here : (n ≤ k) ⊎ (k < n) → (k < n → (get_or ys k zero_frame).release.0 ≤ (get_or ys k zero_frame).start.0) → (get_or ys k zero_frame).release.0 ≤ (get_or ys k zero_frame).start.0
    here (inl l) before =
        let same : k ≡ n = omega arith in
        rw same (ltb-false (get_or ys n zero_frame).start.0 (get_or ys n zero_frame).release.0 last)
    here (inr l) before = before l

-- of rows that were filled: no frame's start lies before its release
pub filled-released : (r : Rows) (ys : List Frame) → most_frames ≤ length ys → r.frames ≤ most_frames → found_after looked_row r.frames false (filled r ys) ≡ false
    → (k : ℕ) → k < r.frames → get_or r.releases k 0 ≤ get_or r.starts k 0
unfolding found_after frame_at
filled-released r ys enough few e k h = there
  where
    n : ℕ
    n = length ys

    found : found_in looked_row false (tab (frame_in r) 0 n) r.frames ≡ false
    found = rw (filled-all r ys enough, length-tab (frame_in r) 0 n, sym (end-frames r.frames n few enough)) at e

    in_row : get_or (tab (frame_in r) 0 n) k zero_frame ≡ frame_at r k
    in_row = get_or-tab (frame_in r) 0 n k zero_frame (omega (arith, h, few, enough)) ∙ ap (frame_in r) (zero-add k) ∙ frame_there r k (rw (sym (within_all r.frames few)) h)

    there : get_or r.releases k 0 ≤ get_or r.starts k 0
    there = rw in_row at (none_found (tab (frame_in r) 0 n) r.frames found k h)

-- ---- clearing

cleared-found : (b : Bool) (ys : List Frame) (n : ℕ) → found_in cleared_row b ys n ≡ b
unfolding found_in cleared_row
cleared-found b ys zero = refl
cleared-found b ys (suc n) = cleared-found b ys n

cleared-row : (b : Bool) (ys : List Frame) (k : ℕ) → passed_row cleared_row b ys k ≡ cond b zero_frame (get_or ys k zero_frame)
unfolding passed_row cleared_row
cleared-row b ys k = rw (cleared-found b ys k)

pub cleared_found : (n : ℕ) (b : Bool) (ys : List Frame) → b ≡ found_after cleared_row n b ys
unfolding found_after
cleared_found n b ys = sym (cleared-found b ys (end_of n (length ys)))

-- zero rows up to a place are what clearing leaves
zero_rows : (n k : ℕ) (ys : List Frame) → k ≡ end_of n (length ys) → k ≤ length ys
    → replicate k zero_frame ++ drop k ys ≡ rows_after cleared_row n true ys
unfolding rows_after
zero_rows n k ys e h =
    ext_get_or zero_frame (replicate k zero_frame ++ drop k ys) (stores ys (passed_row cleared_row true ys) (end_of n (length ys))) long at_each
  where
    long : length (replicate k zero_frame ++ drop k ys) ≡ length (stores ys (passed_row cleared_row true ys) (end_of n (length ys)))
    long = rw (length-append, length-replicate, length-drop, length-stores) (omega arith)

    at_each : (i : ℕ) → i < length (replicate k zero_frame ++ drop k ys)
        → get_or (replicate k zero_frame ++ drop k ys) i zero_frame ≡ get_or (stores ys (passed_row cleared_row true ys) (end_of n (length ys))) i zero_frame
    at_each i w = rw (sym e) (by_place (le-or-lt k i))
      where
        by_place : (k ≤ i) ⊎ (i < k) → get_or (replicate k zero_frame ++ drop k ys) i zero_frame ≡ get_or (stores ys (passed_row cleared_row true ys) k) i zero_frame
        by_place (inl l) =
            let q : k + (i - k) ≡ i = omega arith in
            get_or-append_right (replicate k zero_frame) (drop k ys) k i zero_frame (length-replicate k zero_frame) l
            ∙ get_or-drop k ys (i - k) zero_frame ∙ ap (λ (j : ℕ). get_or ys j zero_frame) q
            ∙ sym (stores_beyond ys (passed_row cleared_row true ys) k i zero_frame l)
        by_place (inr l) =
            get_or_append_left (replicate k zero_frame) (drop k ys) zero_frame i (rw (length-replicate) l)
            ∙ get_or-replicate k i zero_frame zero_frame l
            ∙ sym (stores_at ys (passed_row cleared_row true ys) k i zero_frame l h ∙ cleared-row true ys i)

pub cleared_rows : (n k : ℕ) (b : Bool) (ys us : List Frame) (z : Frame) → k ≡ end_of n (length ys) → k ≤ length ys → b ≡ true → z ≡ zero_frame
    → us ≡ replicate (length (take k ys)) z → us ++ drop k ys ≡ rows_after cleared_row n b ys
cleared_rows n k b ys us z e h c q f = rw (f, q, c, length-take-le k ys h) (zero_rows n k ys e h)

-- where nothing is refused the rows stay
pub cleared-not : (n : ℕ) (ys : List Frame) → rows_after cleared_row n false ys ≡ ys
unfolding rows_after
cleared-not n ys = sym (stores-idle ys (passed_row cleared_row false ys) (end_of n (length ys)) zero_frame (λ k _. cleared-row false ys k))

-- else they are those of no frames: behind the frames they are zero already
pub cleared-laid : (r : Rows) (ys : List Frame) → r.frames ≤ most_frames → rows_after cleared_row r.frames true (filled r ys) ≡ filled (rows_laid []) ys
unfolding rows_after rows_laid
cleared-laid r ys few = by_length (le-or-lt most_frames (length ys))
  where
    ws : List Frame
    ws = tab (frame_in r) 0 (length ys)

    long : length ws ≡ length ys
    long = length-tab (frame_in r) 0 (length ys)

    none : (k : ℕ) → frame_in (rows_laid []) k ≡ zero_frame
    none k = frame_behind (rows_laid []) k (rw (sym (within_all 0 (lit≤ tt))) zero-le)

    zero_row : most_frames ≤ length ys → (k : ℕ) → k < length ys → get_or (stores ws (passed_row cleared_row true ws) r.frames) k zero_frame ≡ frame_in (rows_laid []) k
    zero_row enough k h = by_place (le-or-lt r.frames k)
      where
        by_place : (r.frames ≤ k) ⊎ (k < r.frames) → get_or (stores ws (passed_row cleared_row true ws) r.frames) k zero_frame ≡ frame_in (rows_laid []) k
        by_place (inl l) =
            stores_beyond ws (passed_row cleared_row true ws) r.frames k zero_frame l ∙ get_or-tab (frame_in r) 0 (length ys) k zero_frame h ∙ ap (frame_in r) (zero-add k)
            ∙ frame_behind r k (rw (sym (within_all r.frames few)) l) ∙ sym (none k)
        by_place (inr l) =
            stores_at ws (passed_row cleared_row true ws) r.frames k zero_frame l (rw long (omega (arith, few, enough))) ∙ cleared-row true ws k ∙ sym (none k)

    by_length : (most_frames ≤ length ys) ⊎ (length ys < most_frames) → rows_after cleared_row r.frames true (filled r ys) ≡ filled (rows_laid []) ys
    by_length (inl h) =
        ap (rows_after cleared_row r.frames true) (filled-all r ys h)
        ∙ ap (stores ws (passed_row cleared_row true ws)) (sym (end-frames r.frames (length ws) few (rw long h)))
        ∙ sym (tab_list (frame_in (rows_laid [])) (stores ws (passed_row cleared_row true ws) r.frames) zero_frame (length ys) (sym (length-stores ws (passed_row cleared_row true ws) r.frames ∙ long)) (λ k w. sym (zero_row h k w)))
        ∙ sym (filled-all (rows_laid []) ys h)
    by_length (inr h) =
        ap (rows_after cleared_row r.frames true) (filled-few r ys h) ∙ ap (stores ys (passed_row cleared_row true ys)) (sym (end_short r.frames (length ys) h)) ∙ sym (filled-few (rows_laid []) ys h)
