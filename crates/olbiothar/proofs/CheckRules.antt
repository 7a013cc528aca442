-- What the passes of `check` leave in the lent rows, and its answer, are what the rules' `check` leaves.
use mathlib.Core.Path.{◌≡◌, refl, sym, ap, ◌∙◌, subst}
use mathlib.Core.Bool.{Bool, true, false}
use mathlib.Core.List.{List, map}
use mathlib.Core.Logic.{◌⊎◌, inl, inr}
use lib.Dec.{lit≤}
use lib.ListN.{length, length-map}
use Prim.Native.Nat.{ℕ, ◌≤◌, ◌<◌}
use Rattle.rules.specs.Limits.{most_frames}
use Rattle.laws.specs.Res.{Res, ok, refuse}
use Rattle.laws.proofs.Res.{refuse≢ok, bind_case, then_case, ok_injective}
use Rattle.laws.proofs.Orders.{le-or-lt}
use Rattle.rules.specs.Records.{records, table_follows}
use Rattle.rules.specs.Traffic.{read_in}
use Rattle.rules.specs.Frames.{layout}
use Rattle.rules.specs.Table.{FrameRow}
use Rattle.rules.specs.Checker.{Passed, table_of, judged, check_files, checked_row, check, is_for_consumers}
use Rattle.rows.specs.Rows.{rows_laid}
use Rattle.units.specs.declared.Frame.{Frame}
use Rattle.rows.specs.Frames.{row_of, filled, rows_with}
use Rattle.rows.specs.Passes.{found_after, rows_after, looked_row, cleared_row}
use Rattle.rows.proofs.Laid.{filled_is}
use Rattle.rows.proofs.Scanned.{looked-rows, filled-released, cleared-not, cleared-laid}
use Rattle.std.specs.Prelude.{Result, Ok, Err}
use Rattle.answers.specs.Answered.{judged as heard}
use Rattle.answers.specs.declared.Refusal.{Refusal}
use Rattle.checked.specs.Checking.{Checked, verdict, rows_of, lent_passed}
use Rattle.checked.proofs.Rules.{enough-is, short-is, check-answer, check-rows, check-rows-short}
use Rattle.checker.specs.declared.Ruling.{Ruling}
use Rattle.checker.specs.declared.CheckedRows.{CheckedRows}
use Rattle.checker.specs.Unscanned.{Judged, checking, refuses, Settles}
use Rattle.outward.specs.declared.Answer.{Answer}
use Rattle.outward.specs.Answers.{answer_of}
use Rattle.olbiothar.specs.Lent.{ChecksRows}
use Rattle.olbiothar.specs.Scanned.{Scans}
use Rattle.olbiothar.proofs.FewFrames.{few-laid}

-- ---- at most 1,024 rows

few_passed : (plan table : List ℕ) (c : Passed) → check_files plan table ≡ ok c → length c.layout.pairs ≤ most_frames
unfolding check_files
few_passed plan table c e =
    bind_case (read_in (is_for_consumers table) plan) _ e λ p _ e₁.
    bind_case (layout p) _ e₁ λ l is_laid e₂.
    bind_case (records table_follows 20 table) _ e₂ λ rs _ e₃.
    then_case (judged l (table_of rs)) _ e₃ λ _ _ e₄.
    subst (λ (c : Passed). length c.layout.pairs ≤ most_frames) (ok_injective e₄) (few-laid p l is_laid)

few-rows : (plan table : List ℕ) (rule : Res Passed) → check_files plan table ≡ rule → length (rows_of rule) ≤ most_frames
few-rows plan table (ok c) e = rw (length-map c.layout.pairs (checked_row c.table)) (few_passed plan table c e)
few-rows plan table (refuse n p) e = lit≤ tt

few_checked : (plan table : List ℕ) (lent : ℕ) → length (rows_of (lent_passed plan table lent)) ≤ most_frames
few_checked plan table lent = by_lent (le-or-lt most_frames lent)
  where
    by_lent : (most_frames ≤ lent) ⊎ (lent < most_frames) → length (rows_of (lent_passed plan table lent)) ≤ most_frames
    by_lent (inl h) = rw (enough-is plan table lent h) (few-rows plan table (check_files plan table) refl)
    by_lent (inr h) = rw (short-is plan table lent h) (lit≤ tt)

-- ---- the passes

-- The rows ys were filled (ws), looked through for rule 25, and cleared where the answer refuses (zs).
pub record Passes (plan table : List ℕ) (ys : List Frame) (r : Answer) (zs : List Frame) : Type 0 where
  pub unscanned : CheckedRows
  pub tasks : List ℕ
  pub releases : List ℕ
  pub deadlines : List ℕ
  pub starts : List ℕ
  pub ws : List Frame
  pub same : length ws ≡ length ys
  pub judged : Judged false (length ys) (checking unscanned tasks releases deadlines starts) (lent_passed plan table (length ys))
  pub filled_rows : ws ≡ filled (rows_with unscanned.frames tasks releases deadlines starts) ys
  pub scanned : Scans r plan table unscanned ws zs

module _ (plan table : List ℕ) (ys : List Frame) (r : Answer) (zs : List Frame) (h : Passes plan table ys r zs) where
  abbrev m : Checked
  m = checking h.unscanned h.tasks h.releases h.deadlines h.starts

  abbrev n : Ruling
  n = h.scanned.ruling

  settled : Settles h.scanned.early m.answer (lent_passed plan table (length ys)) n
  settled = subst (λ (k : ℕ). Settles h.scanned.early m.answer (lent_passed plan table k) n) h.same h.scanned.settled

  -- rule 25 was decided by the scan
  answer-is : heard n.answer ≡ verdict (lent_passed plan table (length ys))
  answer-is = by_scan h.scanned.early refl
    where
      by_scan : (b : Bool) → h.scanned.early ≡ b → heard n.answer ≡ verdict (lent_passed plan table (length ys))
      by_scan true e = settled.whole e
      by_scan false e =
          ap heard (settled.kept e)
          ∙ h.judged.answered (inr (λ enough. filled-released m.rows ys enough h.judged.few (ap (found_after looked_row m.rows.frames false) (sym h.filled_rows) ∙ sym h.scanned.looked ∙ e)))

  scanned-is : rows_after looked_row m.rows.frames false h.ws ≡ filled m.rows ys
  scanned-is = looked-rows m.rows.frames false h.ws ∙ h.filled_rows

  rows_are : (rule : Res Passed) (a : Result (Unit {0}) Refusal) → ((c : Passed) → rule ≡ ok c → m.rows ≡ rows_laid (rows_of (ok c))) → heard a ≡ verdict rule
      → rows_after cleared_row m.rows.frames (refuses a) (filled m.rows ys) ≡ filled (rows_laid (rows_of rule)) ys
  rows_are (ok c) (Ok u) left e = cleared-not m.rows.frames (filled m.rows ys) ∙ ap (λ r. filled r ys) (left c refl)
  rows_are (ok c) (Err x) left e = refuse≢ok e
  rows_are (refuse k p) (Ok u) left e = refuse≢ok (sym e)
  rows_are (refuse k p) (Err x) left e = cleared-laid m.rows ys h.judged.few

  left_is : zs ≡ filled (rows_laid (rows_of (lent_passed plan table (length ys)))) ys
  left_is = h.scanned.cleared ∙ rw (settled.refused, scanned-is) (rows_are (lent_passed plan table (length ys)) n.answer h.judged.left answer-is)

  pub checks_rows : ChecksRows r plan table ys zs
  checks_rows =
      let rows : List FrameRow = map row_of ys in
      let k : length rows ≡ length ys = length-map ys row_of in
      record {
        answered = h.scanned.told ∙ ap answer_of (answer-is ∙ sym (rw k at (check-answer plan table rows)));
        left = filled_is (rows_of (lent_passed plan table (length ys))) (few_checked plan table (length ys)) ys zs (rows_laid (rows_of (lent_passed plan table (length ys)))) (check plan table rows).rows refl left_is
            (λ w. rw k at (check-rows plan table rows (rw k w))) (λ w. check-rows-short plan table rows (rw k w));
      }
