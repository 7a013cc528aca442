-- What `maker::made_in` leaves in the lent arrays, with the rows filled from them, is what the rules' `make` leaves.
use mathlib.Core.Bool.{Bool, true, false, cond}
use mathlib.Core.Path.{◌≡◌, refl, sym, ap, ◌∙◌, subst}
use mathlib.Core.List.{List, [], ◌∷◌, map}
use borrow.Author.Tests.{le-leb, lt-leb}
use lib.Dec.{leb, lit≤}
use lib.ListN.{length, length-map}
use Prim.Native.Nat.{ℕ, suc, ◌≤◌, ◌<◌}
use Rattle.laws.specs.Res.{Res, ok, refuse, ◌>>◌, unless}
use Rattle.rules.specs.Limits.{most_frames}
use Rattle.rules.specs.Frames.{Pair, Layout}
use Rattle.rules.specs.Table.{PlacedRow, alone, FrameRow, rows_from, rows_then_zero, MadeTable, made_table, table_for, outcome, make}
use Rattle.rules.proofs.MadePasses.{table-made}
use Rattle.units.specs.declared.Frame.{Frame}
use Rattle.rows.specs.Frames.{row_of, filled}
use Rattle.rows.proofs.Laid.{filled_is}
use Rattle.maker.specs.Making.{is_edition, for_consumers, lent_for}
use Rattle.linetable.specs.Making.{Making, Makes, heard_made, length_of, rows_of, buffer_left}
use Rattle.maker.proofs.Lent.{outcome-rows, make-answer, make-buffer, make-rows}
use Rattle.outward.specs.declared.Answer.{Answer}
use Rattle.outward.specs.Answers.{made_of}
use Rattle.olbiothar.specs.Lent.{made_in, MakesRows}
use Rattle.olbiothar.proofs.FewFrames.{few-laid}

-- ---- at most 1,024 rows

length-rows_from : (rows : List PlacedRow) (k : ℕ) (fs : List Pair) → length (rows_from rows k fs) ≡ length fs
unfolding rows_from
length-rows_from rows k [] = refl
length-rows_from rows k (f ∷ fs) = ap suc (length-rows_from rows (suc k) fs)

few-placed : (rows : List PlacedRow) (l : Layout) → length l.pairs ≤ most_frames → length (made_table l rows).rows ≤ most_frames
unfolding made_table
few-placed rows l h = rw (length-rows_from rows 0 l.pairs) h

few-rows : (consumers : Bool) (plan : List ℕ) (room : ℕ) (rule : Res MadeTable) → table_for consumers plan room ≡ rule → length (rows_of rule) ≤ most_frames
few-rows consumers plan room (ok t) e =
    let m = table-made consumers plan room t e in
    subst (λ (t : MadeTable). length t.rows ≤ most_frames) m.is (few-placed (map alone m.placed) m.laid (few-laid m.read m.laid m.is_laid))
few-rows consumers plan room (refuse n p) e = lit≤ tt

few-made : (edition : ℕ) (plan : List ℕ) (lent room : ℕ) → length (rows_of (lent_for edition plan lent room)) ≤ most_frames
unfolding lent_for
few-made edition plan lent room = by_tests (leb most_frames lent) (is_edition edition)
  where
    by_tests : (b c : Bool) → length (rows_of (◌>>◌ (unless 19 most_frames b) (◌>>◌ (unless 62 edition c) (table_for (for_consumers edition) plan room)))) ≤ most_frames
    by_tests true true = few-rows (for_consumers edition) plan room (table_for (for_consumers edition) plan room) refl
    by_tests true false = lit≤ tt
    by_tests false c = lit≤ tt

-- ---- what the rules leave by the number of an edition is what the ruling leaves

module _ (edition : ℕ) (plan : List ℕ) (rows : List FrameRow) (buffer : List ℕ) where
  abbrev ruled : Res MadeTable
  ruled = lent_for edition plan (length rows) (length buffer)

  record Agree : Type 0 where
    answer : (made_in edition plan rows buffer).answer ≡ length_of ruled
    left : (made_in edition plan rows buffer).buffer ≡ buffer_left ruled buffer
    lent : (made_in edition plan rows buffer).rows ≡ cond (leb most_frames (length rows)) (rows_then_zero (rows_of ruled) (length rows)) rows

  in-edition : is_edition edition ≡ true → Agree
  unfolding made_in
  in-edition known =
      let m : made_in edition plan rows buffer ≡ make (for_consumers edition) plan rows buffer = rw known in
      record {
        answer = rw m (make-answer edition known plan rows buffer);
        left = rw m (make-buffer edition known plan rows buffer);
        lent = rw m (make-rows edition known plan rows buffer);
      }

  in_none : is_edition edition ≡ false → (b : Bool) → leb most_frames (length rows) ≡ b → Agree
  unfolding made_in lent_for
  in_none e true h =
      let m : made_in edition plan rows buffer ≡ outcome (refuse 62 edition) rows buffer = rw (e, h) in
      let q : ruled ≡ refuse 62 edition = rw (h, e) in
      record { answer = rw (m, q); left = rw (m, q); lent = rw (m, q, h) (outcome-rows (refuse 62 edition) rows buffer) }
  in_none e false h =
      let m : made_in edition plan rows buffer ≡ record { answer = refuse 19 most_frames; rows = rows; buffer = buffer } = rw (e, h) in
      let q : ruled ≡ refuse 19 most_frames = rw h in
      record { answer = rw (m, q); left = rw (m, q); lent = rw (m, h) }

  by_edition : (b : Bool) → is_edition edition ≡ b → Agree
  by_edition true e = in-edition e
  by_edition false e = in_none e (leb most_frames (length rows)) refl

  agreed : Agree
  agreed = by_edition (is_edition edition) refl

  -- the rows, where enough are lent and where not
  enough-rows : most_frames ≤ length rows → (made_in edition plan rows buffer).rows ≡ rows_then_zero (rows_of ruled) (length rows)
  enough-rows h = rw (le-leb most_frames (length rows) h) at agreed.lent

  short-rows : length rows < most_frames → (made_in edition plan rows buffer).rows ≡ rows
  short-rows h = rw (lt-leb most_frames (length rows) h) at agreed.lent

pub makes_rows : (edition : ℕ) (plan : List ℕ) (ys zs : List Frame) (before after : List ℕ) (m : Making) (r : Answer) → zs ≡ filled m.rows ys → Makes m before after (lent_for edition plan (length ys) (length before))
    → r ≡ made_of (heard_made m.answer) → MakesRows r edition plan ys zs before after
makes_rows edition plan ys zs before after m r e c told =
    let rows : List FrameRow = map row_of ys in
    let n : length rows ≡ length ys = length-map ys row_of in
    record {
      answered = told ∙ ap made_of (c.answered ∙ sym (rw n at (agreed edition plan rows before).answer));
      left = filled_is (rows_of (lent_for edition plan (length ys) (length before))) (few-made edition plan (length ys) (length before)) ys zs m.rows (made_in edition plan rows before).rows c.left e
          (λ h. rw n at (enough-rows edition plan rows before (rw n h))) (λ h. short-rows edition plan rows before (rw n h));
      written = c.written ∙ sym (rw n at (agreed edition plan rows before).left);
    }
