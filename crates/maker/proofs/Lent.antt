-- The rules' `make` over lent rows, put together from the ruling that `made` is held to.
use mathlib.Core.Path.{◌≡◌, refl, sym, ap}
use mathlib.Core.Bool.{Bool, true, false, cond}
use mathlib.Core.List.{List}
use native.Mathlib.Nat.{sub-zero}
use lib.Dec.{leb}
use lib.ListN.{length, replicate}
use Prim.Native.Nat.{ℕ}
use Rattle.laws.specs.Res.{Res, ok, refuse}
use Rattle.rules.specs.Limits.{most_frames}
use Rattle.rules.specs.Table.{FrameRow, zero_row, rows_then_zero, MadeTable, table_for, outcome, make}
use Rattle.maker.specs.Making.{lent_for, is_edition, for_consumers}
use Rattle.linetable.specs.Making.{length_of, rows_of, buffer_left}

outcome-answer : (r : Res MadeTable) (rows : List FrameRow) (buffer : List ℕ) → (outcome r rows buffer).answer ≡ length_of r
outcome-answer (ok t) rows buffer = refl
outcome-answer (refuse n p) rows buffer = refl

outcome-buffer : (r : Res MadeTable) (rows : List FrameRow) (buffer : List ℕ) → (outcome r rows buffer).buffer ≡ buffer_left r buffer
outcome-buffer (ok t) rows buffer = refl
outcome-buffer (refuse n p) rows buffer = refl

pub outcome-rows : (r : Res MadeTable) (rows : List FrameRow) (buffer : List ℕ) → (outcome r rows buffer).rows ≡ rows_then_zero (rows_of r) (length rows)
unfolding rows_then_zero
outcome-rows (ok t) rows buffer = refl
outcome-rows (refuse n p) rows buffer = ap (λ (k : ℕ). replicate k zero_row) (sym (sub-zero (length rows)))

module _ (edition : ℕ) (known : is_edition edition ≡ true) (plan : List ℕ) (rows : List FrameRow) (buffer : List ℕ) where
  -- what is made of the plan with so many rows and so many bytes lent
  abbrev pub ruling : Res MadeTable
  ruling = lent_for edition plan (length rows) (length buffer)

  -- `make` and the ruling, by the test for 19
  record Agree (b : Bool) : Type 0 where
    answer : (make (for_consumers edition) plan rows buffer).answer ≡ length_of ruling
    left : (make (for_consumers edition) plan rows buffer).buffer ≡ buffer_left ruling buffer
    lent : (make (for_consumers edition) plan rows buffer).rows ≡ cond b (rows_then_zero (rows_of ruling) (length rows)) rows

  agree : (b : Bool) → leb most_frames (length rows) ≡ b → Agree b
  unfolding lent_for make
  agree true e =
      let m : make (for_consumers edition) plan rows buffer ≡ outcome (table_for (for_consumers edition) plan (length buffer)) rows buffer = rw (e, make) in
      record {
        answer = rw (m, e, known) (outcome-answer (table_for (for_consumers edition) plan (length buffer)) rows buffer);
        left = rw (m, e, known) (outcome-buffer (table_for (for_consumers edition) plan (length buffer)) rows buffer);
        lent = rw (m, e, known) (outcome-rows (table_for (for_consumers edition) plan (length buffer)) rows buffer);
      }
  agree false e =
      let m : make (for_consumers edition) plan rows buffer ≡ record { answer = refuse 19 most_frames; rows = rows; buffer = buffer } = rw (e, make) in
      record { answer = rw (m, e); left = rw (m, e); lent = rw m }

  agreed : Agree (leb most_frames (length rows))
  agreed = agree (leb most_frames (length rows)) refl

  pub make-answer : (make (for_consumers edition) plan rows buffer).answer ≡ length_of ruling
  make-answer = agreed.answer

  pub make-buffer : (make (for_consumers edition) plan rows buffer).buffer ≡ buffer_left ruling buffer
  make-buffer = agreed.left

  pub make-rows : (make (for_consumers edition) plan rows buffer).rows ≡ cond (leb most_frames (length rows)) (rows_then_zero (rows_of ruling) (length rows)) rows
  make-rows = agreed.lent
