-- The numbers of `fill`: a row, and the rows after its two loops.
use mathlib.Core.Path.{◌≡◌, sym, ap, ◌∙◌}
use mathlib.Core.List.{List}
use mathlib.Core.Logic.{◌⊎◌, inl, inr}
use native.Mathlib.Nat.{eq-or-lt_of_le}
use native.Mathlib.Omega.{arith}
use lib.ListN.{length, get_or, replicate, length-replicate, get_or-replicate}
use borrow.Author.Tests.{lt-ltb, le-ltb, le-leb, lt-leb}
use Prim.Native.Nat.{ℕ, ◌≤◌, ◌<◌}
use Rattle.rules.specs.Limits.{most_frames}
use Rattle.laws.specs.Lists.{tab}
use Rattle.laws.specs.Loops.{stores}
use Rattle.laws.proofs.Orders.{le-or-lt}
use Rattle.laws.proofs.Arrays.{tab_list}
use Rattle.laws.proofs.Loops.{stores_at, stores_beyond, length-stores}
use Rattle.rows.specs.Rows.{Rows}
use Rattle.units.specs.declared.Frame.{Frame}
use Rattle.rows.specs.Frames.{zero_frame, within_places, frame_at, frame_in, end_of, filled}

-- ---- at most 1,024

pub within-below : (k : ℕ) → k < most_frames → k ≡ within_places k
unfolding within_places
within-below k h = rw (lt-ltb k most_frames h)

pub within-past : (k : ℕ) → most_frames ≤ k → most_frames ≡ within_places k
unfolding within_places
within-past k h = rw (le-ltb k most_frames h)

pub within_all : (n : ℕ) → n ≤ most_frames → n ≡ within_places n
within_all n h = by_case (eq-or-lt_of_le h)
  where
    by_case : (n ≡ most_frames) ⊎ (n < most_frames) → n ≡ within_places n
    by_case (inl e) = e ∙ within-past n (omega arith)
    by_case (inr l) = within-below n l

-- ---- the lent rows that are written

-- those that have a frame
pub end_short : (frames n : ℕ) → n < most_frames → 0 ≡ end_of frames n
unfolding end_of
end_short frames n h = rw (lt-ltb n most_frames h)

pub end-within : (frames n : ℕ) → most_frames ≤ n → within_places frames ≡ end_of frames n
unfolding end_of
end-within frames n h = rw (le-ltb n most_frames h)

pub end-frames : (frames n : ℕ) → frames ≤ most_frames → most_frames ≤ n → frames ≡ end_of frames n
end-frames frames n few h = within_all frames few ∙ end-within frames n h

-- ---- a row

pub frame_there : (r : Rows) (k : ℕ) → k < within_places r.frames → frame_in r k ≡ frame_at r k
unfolding frame_in
frame_there r k h = rw (lt-ltb k (within_places r.frames) h)

pub frame_behind : (r : Rows) (k : ℕ) → within_places r.frames ≤ k → frame_in r k ≡ zero_frame
unfolding frame_in
frame_behind r k h = rw (le-ltb k (within_places r.frames) h)

-- ---- the rows

pub filled-few : (r : Rows) (ys : List Frame) → length ys < most_frames → filled r ys ≡ ys
unfolding filled
filled-few r ys h = rw (lt-leb most_frames (length ys) h)

pub filled-all : (r : Rows) (ys : List Frame) → most_frames ≤ length ys → filled r ys ≡ tab (frame_in r) 0 (length ys)
unfolding filled
filled-all r ys h = rw (le-leb most_frames (length ys) h)

-- ---- zero rows, and the frames stored over them

module _ (r : Rows) (ys us : List Frame) (places : ℕ) (cleared : us ≡ replicate (length ys) zero_frame) (enough : most_frames ≤ length ys)
    (few : places ≤ most_frames) (e : places ≡ within_places r.frames) where
  long : length us ≡ length ys
  long = ap length cleared ∙ length-replicate (length ys) zero_frame

  row-at : (k : ℕ) → k < length ys → get_or (stores us (frame_in r) places) k zero_frame ≡ frame_in r k
  row-at k h = by_place (le-or-lt places k)
    where
      by_place : (places ≤ k) ⊎ (k < places) → get_or (stores us (frame_in r) places) k zero_frame ≡ frame_in r k
      by_place (inl l) =
          stores_beyond us (frame_in r) places k zero_frame l
          ∙ ap (λ (l : List Frame). get_or l k zero_frame) cleared
          ∙ get_or-replicate (length ys) k zero_frame zero_frame h
          ∙ sym (frame_behind r k (rw (sym e) l))
      by_place (inr l) = stores_at us (frame_in r) places k zero_frame l (rw long (omega (arith, few, enough)))

  pub filled-end : (ws : List Frame) (k : ℕ) → ws ≡ stores us (frame_in r) k → k ≡ places → ws ≡ filled r ys
  filled-end ws k is all =
      is
      ∙ ap (stores us (frame_in r)) all
      ∙ sym
      (tab_list (frame_in r) (stores us (frame_in r) places) zero_frame (length ys) (sym (length-stores us (frame_in r) places ∙ long))
      (λ k w. sym (row-at k w)))
      ∙ sym (filled-all r ys enough)
