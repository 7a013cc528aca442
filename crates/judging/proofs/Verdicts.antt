-- What each way out of the judgement answers is what the rules say there.
use mathlib.Core.Path.{◌≡◌, refl, sym, ap, ◌∙◌}
use mathlib.Core.Bool.{Bool, true, false, ◌&&◌}
use mathlib.Core.List.{List}
use mathlib.Core.Logic.{◌⊎◌, inl, inr}
use mathlib.Core.Option.{Option, none, some}
use native.Mathlib.Nat.{zero-add}
use native.Mathlib.Omega.{arith}
use lib.Dec.{eqb}
use lib.ListN.{length, get_or, replicate}
use borrow.Author.Tests.{eqb-true, le-leb}
use Prim.Native.Nat.{ℕ, ◌+◌, ◌≤◌, ◌<◌}
use Rattle.rules.specs.Limits.{most_frames}
use Rattle.laws.specs.Res.{Res, ok, refuse, at, unless, ◌>>◌}
use Rattle.laws.specs.Lists.{first_bad, tab, up_to}
use Rattle.laws.specs.Loops.{stores}
use Rattle.laws.proofs.Res.{refuse≢ok}
use Rattle.laws.proofs.Lists.{length-tab, get_or-tab, both_left, both_right, true-false}
use Rattle.laws.proofs.Loops.{first_bad-up_to-none, first_bad-up_to-passes, first_bad-up_to-within}
use Rattle.rules.specs.Frames.{Pair, ControlRow, no_control_row}
use Rattle.rules.specs.Checker.{name_of, row_of, TableRead, control_at}
use Rattle.std.specs.Prelude as code
use Rattle.std.specs.Prelude.{Some, None}
use Rattle.judging.specs.declared.Bounds.{Bounds}
use Rattle.naming.specs.Places.{look_in, before_in, Numbered, number_at, is_new, spread}
use Rattle.places.specs.Spot.{spot_of, spot_in}
use Rattle.table.specs.Memory.{Table, row_seen, seen}
use Rattle.table.specs.Rows.{control_in, data_in}
use Rattle.datarows.specs.Rows.{time_kept, release_kept, due_kept, gap_kept, last_kept}
use Rattle.judging.specs.Judged.{Judgement, header_fits, control_fits, rows_judged, judged_for, header_same, controls_same, frame_in, frames_in, time_in, NoneEarly, Right, in_order, only_where, Among}
use Rattle.answers.specs.Answered.{judged}
use Rattle.laws.proofs.Turns.{same_bad}
use Rattle.judging.proofs.NamedFrames.{new-within, spread_row, starts-laid}
use Rattle.judging.proofs.Held.{look_within, last-stop, number-given, rows-judged}

-- ---- what a scan found

pub spot_at : (o : Option ℕ) {s : code.Option ℕ} {k : ℕ} → s ≡ spot_of o → s ≡ Some k → o ≡ some k
spot_at none e q = let z : ◌≡◌ {A = ℕ} 0 1 = cc in absurd (omega arith)
spot_at (some j) {k = k} e q = let z : j ≡ k = cc in ap some z

pub spot_nowhere : (o : Option ℕ) {s : code.Option ℕ} → s ≡ spot_of o → s ≡ None → o ≡ none
spot_nowhere none e q = refl
spot_nowhere (some j) e q = let z : ◌≡◌ {A = ℕ} 0 1 = cc in absurd (omega arith)

pub spot_within : (p : ℕ → Bool) (n : ℕ) {s : code.Option ℕ} {k : ℕ} → s ≡ spot_of (first_bad p (up_to n)) → s ≡ Some k → k < n
spot_within p n {k = k} e q = first_bad-up_to-within p n k (spot_at (first_bad p (up_to n)) e q)

pub spot_found : (o : Option ℕ) {s : code.Option ℕ} → s ≡ spot_of o → spot_in s ≡ o
spot_found none e = ap spot_in e
spot_found (some j) e = ap spot_in e

pub spot_among : (p : ℕ → Bool) (n room : ℕ) {s : code.Option ℕ} → s ≡ spot_of (first_bad p (up_to n)) → n ≤ room → Among room s
spot_among p n room {s = Some k} e h = let w = spot_within p n e refl in omega (arith, w)
spot_among p n room {s = None} e h = tt

-- also where the scan is not made
pub spot_only : (early : Bool) (p : ℕ → Bool) (n room : ℕ) {s : code.Option ℕ} → s ≡ spot_of (only_where early (first_bad p (up_to n))) → n ≤ room → Among room s
spot_only true p n room e h = spot_among p n room e h
spot_only false p n room e h = rw e tt

pub among-at : (room : ℕ) (s : code.Option ℕ) {k : ℕ} → Among room s → s ≡ Some k → k < room
among-at room s h e = rw e at h

-- where nothing is refused, the first rule refuses nothing
first-kept : (first : ℕ) (a b c d e : Option ℕ) (end : Res (Unit {0})) → in_order first a b c d e end ≡ ok tt → a ≡ none
first-kept first none b c d e end h = refl
first-kept first (some k) b c d e end h = refuse≢ok h

-- ---- judgements

module _ {says : Res (Unit {0})} (frames : List Pair) (t : TableRead) {early : Bool} {releases : List ℕ} {count : ℕ} {j : Judgement} where
  pub right_refused : {n p : ℕ} → says ≡ refuse n p → judged j.verdict ≡ refuse n p → Right early releases count says frames t j
  right_refused e h = record { verdict = λ _. h ∙ sym e; starts = λ q. refuse≢ok (sym e ∙ q) }

-- ---- rules 23 to 28

module _ (tasks releases deadlines times : List ℕ) (frames : ℕ) (n : Numbered tasks deadlines frames) (b : Bounds) (t : Table)
    (room : t.rows ≤ most_frames) {named : List ℕ}
    (numbered : named ≡ stores (replicate most_frames 0) (number_at tasks deadlines frames t.tasks t.deadlines) t.rows) where
  -- the frames by number
  abbrev wanted : List Pair
  wanted = frames_in tasks releases deadlines frames

  -- what each scan looks for
  abbrev name_ok : ℕ → Bool
  name_ok = is_new named frames

  abbrev time_ok : ℕ → Bool
  time_ok = time_kept t.tasks t.starts t.stops times b.resolution.0

  abbrev release_ok : ℕ → Bool
  release_ok = release_kept t.starts releases named

  abbrev due_ok : ℕ → Bool
  due_ok = due_kept t.stops t.deadlines

  abbrev gap_ok : ℕ → ℕ → Bool
  gap_ok last = gap_kept t.starts t.stops last b.gap.0

  abbrev end_ok : ℕ → Bool
  end_ok last = last_kept t.stops last b.gap.0 b.period.0 t.rows

  abbrev first_of : (ℕ → Bool) → Option ℕ
  first_of test = first_bad test (up_to t.rows)

  abbrev first_crowded : Option ℕ
  first_crowded = first_of (gap_ok (before_in t.control_stops 0 t.controls))

  abbrev ending : Res (Unit {0})
  ending = unless 28 (t.controls + t.rows) (end_ok (before_in t.control_stops 0 t.controls))

  whole : rows_judged wanted (time_in times) b (seen t)
      ≡ in_order (1 + t.controls) (first_of name_ok) (first_of time_ok) (first_of release_ok) (first_of due_ok) first_crowded ending
  whole =
      sym (rw numbered (rows-judged tasks releases deadlines times frames n b t room (before_in t.control_stops 0 t.controls) (last-stop t)))

  -- where every row names a frame of its own, and no frame is early by number, no row is early
  none-early : first_of name_ok ≡ none → NoneEarly releases (spread named t.starts t.rows) frames → first_of release_ok ≡ none
  unfolding release_kept
  none-early all_named h =
      first_bad-up_to-none release_ok t.rows
      (λ k l.
      let new : (i : ℕ) → i < t.rows → name_ok i ≡ true = λ i u. first_bad-up_to-passes name_ok t.rows i all_named u in
      let w : get_or named k 0 < frames = new-within named frames k (new k l) in
      let at_row : get_or (spread named t.starts t.rows) (get_or named k 0) 0 ≡ get_or t.starts k 0 = spread_row named frames t.starts n.room t.rows new k l in
      le-leb (look_in most_frames releases (get_or named k 0)) (get_or t.starts k 0)
      (rw (look_within most_frames releases (get_or named k 0) (omega (arith, w, n.room)), sym at_row) (h (get_or named k 0) w)))

  -- rule 25 by the scan of rows, or by the starts by number
  looked-at : (early : Bool) → (early ≡ true) ⊎ NoneEarly releases (spread named t.starts t.rows) frames
      → in_order (1 + t.controls) (first_of name_ok) (first_of time_ok) (only_where early (first_of release_ok)) (first_of due_ok) first_crowded ending
      ≡ in_order (1 + t.controls) (first_of name_ok) (first_of time_ok) (first_of release_ok) (first_of due_ok) first_crowded ending
  looked-at true h = refl
  looked-at false (inl e) = true-false (sym e)
  looked-at false (inr h) = here (first_of name_ok) refl
    where
      here : (o : Option ℕ) → first_of name_ok ≡ o
          → in_order (1 + t.controls) o (first_of time_ok) none (first_of due_ok) first_crowded ending
          ≡ in_order (1 + t.controls) o (first_of time_ok) (first_of release_ok) (first_of due_ok) first_crowded ending
      here none e = rw (none-early e h)
      here (some k) e = refl

  -- what the scans found, and what their order makes of it
  pub rows_right : {sa sb sc sd se : code.Option ℕ} {early : Bool} → sa ≡ spot_of (first_of name_ok) → sb ≡ spot_of (first_of time_ok)
      → sc ≡ spot_of (only_where early (first_of release_ok)) → sd ≡ spot_of (first_of due_ok)
      → {last : ℕ} → last ≡ before_in t.control_stops 0 t.controls → se ≡ spot_of (first_of (gap_ok last))
      → {ends : Bool} → ends ≡ end_ok last → {end : Res (Unit {0})} → end ≡ unless 28 (t.controls + t.rows) ends → (j : Judgement)
      → judged j.verdict ≡ in_order (1 + t.controls) (spot_in sa) (spot_in sb) (spot_in sc) (spot_in sd) (spot_in se) end
      → j.starts ≡ spread named t.starts t.rows → Right early releases frames (rows_judged wanted (time_in times) b (seen t)) wanted (seen t) j
  unfolding seen row_seen data_in row_of name_of
  rows_right {sa} {sb} {sc} {sd} {se} {early} fa fb fc fd {last} is_last fe {ends} is_end {end} is_said j says spreads =
      record {
        verdict = λ h. says ∙ as_found ∙ looked-at early (rw spreads at h) ∙ sym whole;
        starts = λ passed.
            let all_named : first_of name_ok ≡ none
            = first-kept (1 + t.controls) (first_of name_ok) (first_of time_ok) (first_of release_ok) (first_of due_ok) first_crowded ending (sym whole ∙ passed) in
            spreads ∙ starts-laid tasks releases deadlines frames n (row_seen t) t.rows named
            (λ k l. rw numbered (number-given tasks releases deadlines times frames n b t room (before_in t.control_stops 0 t.controls) (last-stop t) k l))
            (λ k. refl) t.starts (λ k l. refl) (λ k l. first_bad-up_to-passes name_ok t.rows k all_named l);
      }
    where
      as_found : in_order (1 + t.controls) (spot_in sa) (spot_in sb) (spot_in sc) (spot_in sd) (spot_in se) end
          ≡ in_order (1 + t.controls) (first_of name_ok) (first_of time_ok) (only_where early (first_of release_ok)) (first_of due_ok) first_crowded ending
      as_found =
          rw (
            spot_found (first_of name_ok) fa,
            spot_found (first_of time_ok) fb,
            spot_found (only_where early (first_of release_ok)) fc,
            spot_found (first_of due_ok) fd,
            spot_found (first_of (gap_ok last)) fe,
            is_said,
            is_end,
            is_last,
          )

-- ---- rules 21 and 22

module _ (tasks releases deadlines : List ℕ) (frames : ℕ) (time : ℕ → ℕ) (nodes begins ends : List ℕ) (controls : ℕ) (b : Bounds) (t : Table) where
  abbrev fixed : List ControlRow
  fixed = tab (control_in nodes begins ends) 0 controls

  abbrev asked : List Pair
  asked = frames_in tasks releases deadlines frames

  header-same : header_fits fixed asked b (seen t) ≡ header_same t.header t.controls t.rows b controls frames
  unfolding header_fits header_same seen frames_in
  header-same =
      rw (
        length-tab (control_in nodes begins ends) 0 controls,
        length-tab (frame_in tasks releases deadlines) 0 frames,
        length-tab (control_in t.control_nodes t.control_starts t.control_stops) 0 t.controls,
        length-tab (row_seen t) 0 t.rows,
      )

  control-same : (k : ℕ) → t.controls ≡ controls → k < controls
      → controls_same (control_in t.control_nodes t.control_starts t.control_stops) (control_in nodes begins ends) k ≡ control_fits fixed (seen t) k
  unfolding controls_same control_fits control_at seen
  control-same k e h =
      rw (
        get_or-tab (control_in nodes begins ends) 0 controls k no_control_row h,
        zero-add k,
        get_or-tab (control_in t.control_nodes t.control_starts t.control_stops) 0 t.controls k no_control_row (omega arith),
        zero-add k,
      )

  pub wrong-header : {early r : Bool} {j : Judgement} → r ≡ header_same t.header t.controls t.rows b controls frames → r ≡ false
      → judged j.verdict ≡ refuse 21 0
      → Right early releases frames (judged_for fixed asked time b (seen t)) asked (seen t) j
  unfolding judged_for
  wrong-header e q h = right_refused asked (seen t) (rw (header-same, sym e, q)) h

  module _ {r : Bool} (e : r ≡ header_same t.header t.controls t.rows b controls frames) (q : r ≡ true) where
    counts : (eqb t.controls controls && eqb t.rows frames) ≡ true
    unfolding header_same
    counts =
        both_right (eqb t.header.controls controls && eqb t.header.datas frames) (eqb t.controls controls && eqb t.rows frames)
        (both_right (eqb t.header.period.0 b.period.0)
        ((eqb t.header.controls controls && eqb t.header.datas frames) && (eqb t.controls controls && eqb t.rows frames))
        (sym e ∙ q))

    pub control-count : t.controls ≡ controls
    control-count = eqb-true t.controls controls (both_left (eqb t.controls controls) (eqb t.rows frames) counts)

    pub row_count : t.rows ≡ frames
    row_count = eqb-true t.rows frames (both_right (eqb t.controls controls) (eqb t.rows frames) counts)

    seen-count : length (seen t).control ≡ controls
    unfolding seen
    seen-count = length-tab (control_in t.control_nodes t.control_starts t.control_stops) 0 t.controls ∙ control-count

    scanned : judged_for fixed asked time b (seen t)
        ≡ ◌>>◌ (at 22 1 (first_bad (controls_same (control_in t.control_nodes t.control_starts t.control_stops) (control_in nodes begins ends)) (up_to controls)))
        (rows_judged asked time b (seen t))
    unfolding judged_for
    scanned =
        rw (
          header-same,
          sym e,
          q,
          seen-count,
          same_bad (controls_same (control_in t.control_nodes t.control_starts t.control_stops) (control_in nodes begins ends)) (control_fits fixed (seen t)) controls
              (λ k h. control-same k control-count h),
        )

    module _ {s : code.Option ℕ} (found : s ≡ spot_of (first_bad (controls_same (control_in t.control_nodes t.control_starts t.control_stops) (control_in nodes begins ends)) (up_to controls))) where
      pub strange_control : {early : Bool} {k : ℕ} {j : Judgement} → s ≡ Some k → judged j.verdict ≡ refuse 22 (1 + k)
          → Right early releases frames (judged_for fixed asked time b (seen t)) asked (seen t) j
      strange_control here h =
          let bad = spot_at (first_bad (controls_same (control_in t.control_nodes t.control_starts t.control_stops) (control_in nodes begins ends)) (up_to controls)) found here in
          right_refused asked (seen t) (scanned ∙ rw bad) h

      pub same-controls : {early : Bool} {j : Judgement} → s ≡ None → Right early releases frames (rows_judged asked time b (seen t)) asked (seen t) j
          → Right early releases frames (judged_for fixed asked time b (seen t)) asked (seen t) j
      same-controls here h =
          let good = spot_nowhere (first_bad (controls_same (control_in t.control_nodes t.control_starts t.control_stops) (control_in nodes begins ends)) (up_to controls)) found here in
          let same : rows_judged asked time b (seen t) ≡ judged_for fixed asked time b (seen t) = sym (scanned ∙ rw good) in
          rw (sym same) h
