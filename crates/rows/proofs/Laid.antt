-- Frame rows that were laid into arrays and filled into a lent list are the rows that the rules ask for, and a frame struct says no more than its row.
use mathlib.Core.Path.{◌≡◌, refl, sym, ap, ◌∙◌}
use mathlib.Core.List.{List, [], ◌∷◌, ◌++◌, map}
use mathlib.Core.Logic.{◌⊎◌, inl, inr}
use native.Mathlib.Omega.{arith}
use lib.ListN.{length, get_or, replicate, length-replicate, length-append, get_or-eq_default}
use Prim.Native.Nat.{ℕ, zero, suc, ◌+◌, ◌-◌, ◌≤◌, ◌<◌}
use Rattle.rules.specs.Limits.{most_frames}
use Rattle.laws.proofs.Lists.{map-tab}
use Rattle.laws.proofs.Arrays.{tab_list, get_or-laid}
use Rattle.laws.proofs.Orders.{le-or-lt}
use Rattle.rules.specs.Table.{FrameRow, zero_row, rows_then_zero}
use Rattle.rows.specs.Rows.{Rows}
use Rattle.rows.specs.Rows.{row_task, row_release, row_deadline, row_start, rows_laid}
use Rattle.units.specs.declared.Frame.{Frame}
use Rattle.rows.specs.Frames.{row_of, frame_of, within_places, frame_at, frame_in, filled}
use Rattle.rows.proofs.Filled.{within_all, frame_there, frame_behind, filled-few, filled-all}

-- ---- a frame struct and its row say the same

abbrev pub frame_for : FrameRow → Frame
frame_for r = frame_of r.task r.release r.deadline r.start

pub frames-said : (fs : List Frame) → map frame_for (map row_of fs) ≡ fs
frames-said [] = refl
frames-said (f ∷ fs) = ap (λ (l : List Frame). f ∷ l) (frames-said fs)

-- no second list of structs has the same rows
pub rows-once : (fs gs : List Frame) → map row_of fs ≡ map row_of gs → fs ≡ gs
rows-once fs gs e = sym (frames-said fs) ∙ ap (map frame_for) e ∙ frames-said gs

-- ---- what is lent and filled

-- behind a list, filled up with the default, stands the default
get_or-filled : {A : Type 0} (l : List A) (m k : ℕ) (z : A) → get_or (l ++ replicate m z) k z ≡ get_or l k z
get_or-filled (x ∷ l) m zero z = refl
get_or-filled (x ∷ l) m (suc k) z = get_or-filled l m k z
get_or-filled [] zero k z = refl
get_or-filled [] (suc m) zero z = refl
get_or-filled [] (suc m) (suc k) z = get_or-filled [] m k z

module _ (rs : List FrameRow) (few : length rs ≤ most_frames) where
  all-within : within_places (rows_laid rs).frames ≡ length rs
  unfolding rows_laid
  all-within = sym (within_all (length rs) few)

  -- row k of the laid rows
  row-there : (k : ℕ) → k < length rs → row_of (frame_at (rows_laid rs) k) ≡ get_or rs k zero_row
  unfolding frame_at rows_laid
  row-there k h =
      let l : k < most_frames = omega (arith, h, few) in
      rw (get_or-laid row_task rs zero_row most_frames k refl l, get_or-laid row_release rs zero_row most_frames k refl l, get_or-laid row_deadline rs zero_row most_frames k refl l, get_or-laid row_start rs zero_row most_frames k refl l)

  row_laid : (k : ℕ) → row_of (frame_in (rows_laid rs) k) ≡ get_or rs k zero_row
  row_laid k = by_place (le-or-lt (length rs) k)
    where
      by_place : (length rs ≤ k) ⊎ (k < length rs) → row_of (frame_in (rows_laid rs) k) ≡ get_or rs k zero_row
      by_place (inl h) = ap row_of (frame_behind (rows_laid rs) k (rw all-within h)) ∙ sym (get_or-eq_default rs zero_row h)
      by_place (inr h) = ap row_of (frame_there (rows_laid rs) k (rw all-within h)) ∙ row-there k h

  -- the frames by number with their starts, then zero rows
  pub filled-laid : (ys : List Frame) → most_frames ≤ length ys → map row_of (filled (rows_laid rs) ys) ≡ rows_then_zero rs (length ys)
  unfolding rows_then_zero
  filled-laid ys h = ap (map row_of) (filled-all (rows_laid rs) ys h) ∙ map-tab (frame_in (rows_laid rs)) row_of 0 (length ys)
      ∙ tab_list (λ k. row_of (frame_in (rows_laid rs) k)) whole zero_row (length ys) (sym size) (λ k w. row_laid k ∙ sym (get_or-filled rs rest k zero_row))
    where
      rest : ℕ
      rest = length ys - length rs

      whole : List FrameRow
      whole = rs ++ replicate rest zero_row

      size : length whole ≡ length ys
      size =
          let e : length whole ≡ length rs + length (replicate rest zero_row) = length-append rs (replicate rest zero_row) in
          let f : length (replicate rest zero_row) ≡ rest = length-replicate rest zero_row in
          let g : rest ≡ length ys - length rs = refl in
          omega arith

  -- so the lent rows are whatever rows are these where enough are lent, and the old ones where not
  pub filled_is : (ys zs : List Frame) (r : Rows) (rows : List FrameRow) → r ≡ rows_laid rs → zs ≡ filled r ys
      → (most_frames ≤ length ys → rows ≡ rows_then_zero rs (length ys)) → (length ys < most_frames → rows ≡ map row_of ys) → map row_of zs ≡ rows
  filled_is ys zs r rows laid e enough short = by_length (le-or-lt most_frames (length ys))
    where
      by_length : (most_frames ≤ length ys) ⊎ (length ys < most_frames) → map row_of zs ≡ rows
      by_length (inl h) = rw (e, laid, enough h) (filled-laid ys h)
      by_length (inr h) = rw (e, short h) (ap (map row_of) (filled-few r ys h))
