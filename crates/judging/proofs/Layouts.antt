-- What the arrays of a plan are judged by is what the rules judge by: `judged_for` on the arrays is `judged` on the layout, for a table
-- whose rows hold one pair each.
use mathlib.Core.Path.{◌≡◌, refl, sym, ap, ◌∙◌, subst}
use mathlib.Core.Bool.{Bool, true, false, ◌&&◌}
use mathlib.Core.List.{List, [], ◌∷◌, Memᴰ}
use native.Mathlib.Omega.{arith}
use lib.Dec.{eqb}
use lib.ListN.{length, get_or}
use borrow.Author.Tests.{lt-ltb, eqb-true}
use Prim.Native.Nat.{ℕ, ◌+◌, ◌*◌, ◌≤◌, ◌<◌}
use Rattle.rules.specs.Limits.{most_frames}
use Rattle.laws.specs.Res.{refuse}
use Rattle.laws.proofs.Res.{refuse≢ok}
use Rattle.laws.proofs.Lists.{both_left, both_right, length-tab}
use Rattle.laws.proofs.Arrays.{tab_list, get_or-laid}
use Rattle.laws.proofs.Members.{All, pairs-get_or, all_get_d, all_member, all_of_members}
use Rattle.rules.specs.Plan.{Plan}
use Rattle.rules.specs.Frames.{Pair, pairs, ControlRow, no_control_row, layout_of}
use Rattle.rules.specs.LatestRelease.{no_pair, time_alone}
use Rattle.rules.specs.Checker.{Row, name_of, row_of, TableRead, no_row, header_right, control_kept, gap_kept, last_kept, judged}
use Rattle.rules.proofs.PairsOf.{Before, before_case}
use Rattle.rules.proofs.SingleRows.{OpensAlone, Single, opens_same, single_new, single_time, single_release, single_deadline, single_judged, judged_single}
use Rattle.judging.specs.declared.Bounds.{Bounds}
use Rattle.naming.specs.Places.{look_in, key_at, Numbered}
use Rattle.table.specs.Memory.{control_node_of, control_start_of, control_stop_of, task_of, deadline_of, start_of, stop_of, lay_out, row_seen, seen}
use Rattle.table.specs.Rows.{control_in, data_in}
use Rattle.line.specs.Line.{line_of}
use Rattle.line.proofs.Drawn.{Drawn, frame_of, control_of, frame_drawn, frames_drawn, controls_drawn, time_drawn}
use Rattle.judging.specs.Judged.{Judgement, header_fits, control_fits, same_pair, names_new, time_fits, release_fits, due_fits, gap_fits, end_fits, times_judged, rows_judged, judged_for, frame_in, frames_in, time_in, controls_on, frames_on, bounds_on, line_judged, Right}

-- ---- the parts of a layout

-- a table whose rows hold one pair each, judged by times that are right for the pairs
judged_parts : (p : Plan) (t : TableRead) (time : ℕ → ℕ) → Single t → All (λ f. time_alone (layout_of p) f ≡ time f.task) (layout_of p).pairs
    → judged_for (layout_of p).control (layout_of p).pairs time (bounds_on (line_of p)) t ≡ judged (layout_of p) t
unfolding judged_for rows_judged times_judged header_fits control_fits same_pair names_new time_fits release_fits due_fits gap_fits end_fits bounds_on line_of header_right control_kept gap_kept last_kept single_judged opens_same single_new single_time single_release single_deadline layout_of
judged_parts p t time single right = sym (judged_single (layout_of p) (λ f. refl) t single time right)

-- ---- a table laid out and seen again

module _ (t : TableRead) where
  seen-control : length t.control ≤ 8 → (seen (lay_out t)).control ≡ t.control
  unfolding seen lay_out control_in
  seen-control h =
      tab_list (control_in (lay_out t).control_nodes (lay_out t).control_starts (lay_out t).control_stops) t.control no_control_row (length t.control) refl
      (λ k w. rw (get_or-laid control_node_of t.control no_control_row 8 k refl (omega arith), get_or-laid control_start_of t.control no_control_row 8 k refl (omega arith), get_or-laid control_stop_of t.control no_control_row 8 k refl (omega arith)))

  seen-rows : Single t → length t.rows ≤ most_frames → (seen (lay_out t)).rows ≡ t.rows
  unfolding seen lay_out row_seen data_in row_of name_of
  seen-rows single h =
      tab_list (row_seen (lay_out t)) t.rows no_row (length t.rows) refl
      (λ k w. rw (get_or-laid task_of t.rows no_row most_frames k refl (omega arith), get_or-laid deadline_of t.rows no_row most_frames k refl (omega arith), get_or-laid start_of t.rows no_row most_frames k refl (omega arith), get_or-laid stop_of t.rows no_row most_frames k refl (omega arith))
      (alone-is (get_or t.rows k no_row) (all_get_d no_row single k w)))
    where
      alone-is : (r : Row) → OpensAlone r → record { opens = r.opens; holds = r.opens ∷ []; start = r.start; stop = r.stop } ≡ r
      alone-is r e = rw (sym e)

  pub seen-whole : Single t → length t.control ≤ 8 → length t.rows ≤ most_frames → seen (lay_out t) ≡ t
  unfolding seen lay_out
  seen-whole single h w = rw (seen-control h, seen-rows single w)

module _ (control : List ControlRow) (frames : List Pair) (time : ℕ → ℕ) (b : Bounds) (t : TableRead) (single : Single t) (few : length control ≤ 8)
    (room : length frames ≤ most_frames) where
  seen-header : header_fits control frames b (seen (lay_out t)) ≡ header_fits control frames b t
  unfolding header_fits seen lay_out
  seen-header =
      rw (length-tab (control_in (lay_out t).control_nodes (lay_out t).control_starts (lay_out t).control_stops) 0 (length t.control), length-tab (row_seen (lay_out t)) 0 (length t.rows))

  fits_whole : header_fits control frames b t ≡ true → seen (lay_out t) ≡ t
  unfolding header_fits
  fits_whole e =
      let counts = both_right (eqb t.controls (length control) && eqb t.datas (length frames)) (eqb (length t.control) (length control) && eqb (length t.rows) (length frames))
      (both_right (eqb t.period b.period.0) ((eqb t.controls (length control) && eqb t.datas (length frames)) && (eqb (length t.control) (length control) && eqb (length t.rows) (length frames))) e) in
      let c : length t.control ≡ length control = eqb-true (length t.control) (length control) (both_left (eqb (length t.control) (length control)) (eqb (length t.rows) (length frames)) counts) in
      let r : length t.rows ≡ length frames = eqb-true (length t.rows) (length frames) (both_right (eqb (length t.control) (length control)) (eqb (length t.rows) (length frames)) counts) in
      seen-whole t single (omega arith) (omega arith)

  -- a table that is laid out is judged as it was read, also where it has more rows than places
  pub seen_right : {early : Bool} {releases : List ℕ} {count : ℕ} {j : Judgement}
      → Right early releases count (judged_for control frames time b (seen (lay_out t))) frames (seen (lay_out t)) j
      → Right early releases count (judged_for control frames time b t) frames t j
  unfolding judged_for
  seen_right {early} {releases} {count} {j} r = here (header_fits control frames b t) refl
    where
      here : (c : Bool) → header_fits control frames b t ≡ c → Right early releases count (judged_for control frames time b t) frames t j
      here true e = subst (λ (s : TableRead). Right early releases count (judged_for control frames time b s) frames s j) (fits_whole e) r
      here false e =
          let refused : judged_for control frames time b (seen (lay_out t)) ≡ refuse 21 0 = rw (seen-header, e) in
          let too : judged_for control frames time b t ≡ refuse 21 0 = rw e in
          record { verdict = λ h. r.verdict h ∙ refused ∙ sym too; starts = λ q. refuse≢ok (sym too ∙ q) }

-- ---- the line of a plan

module _ (p : Plan) (d : Drawn p) where
  frames-on : frames_on (line_of p) ≡ (layout_of p).pairs
  unfolding frames_on frames_in frame_in line_of frame_of layout_of pairs
  frames-on = frames_drawn p d

  controls-on : controls_on (line_of p) ≡ (layout_of p).control
  unfolding controls_on control_in line_of control_of
  controls-on = controls_drawn p d

  -- The frames of a plan are by number.
  pub line_numbered : Numbered (line_of p).tasks (line_of p).deadlines (line_of p).frames
  unfolding frame_of key_at line_of layout_of pairs
  line_numbered =
      record {
        room = d.few;
        small = λ k h. rw (task-at k h) (omega (arith, task-small k h));
        rising = λ j k h w. read_lower (task-at j (omega arith)) (deadline-at j (omega arith)) (task-at k w) (deadline-at k w)
            (lower (get_or (pairs p) j no_pair) (get_or (pairs p) k no_pair) (task-small j (omega arith)) (pairs-get_or no_pair d.sorted j k h w));
      }
    where
      task-small : (k : ℕ) → k < length (pairs p) → (get_or (pairs p) k no_pair).task < 32
      task-small k h = all_get_d no_pair d.tasks k h

      task-at : (k : ℕ) → k < length (pairs p) → get_or (line_of p).tasks k 0 ≡ (get_or (pairs p) k no_pair).task
      task-at k h = ap (λ (f : Pair). f.task) (frame_drawn p d k h)

      deadline-at : (k : ℕ) → k < length (pairs p) → get_or (line_of p).deadlines k 0 ≡ (get_or (pairs p) k no_pair).deadline
      deadline-at k h = ap (λ (f : Pair). f.deadline) (frame_drawn p d k h)

      read_lower : {t d u e t' d' u' e' : ℕ} → t ≡ t' → d ≡ d' → u ≡ u' → e ≡ e' → d' * 256 + t' < e' * 256 + u' → d * 256 + t < e * 256 + u
      read_lower a b c g h = rw (a, b, c, g) h

      lower : (f g : Pair) → f.task < 32 → Before f g → f.deadline * 256 + f.task < g.deadline * 256 + g.task
      lower f g h o = before_case f g o (λ d. omega arith) (λ d u. omega arith)

  pub line-controls : (line_of p).controls ≤ 8
  unfolding line_of
  line-controls = d.controls

  time_on : (f : Pair) → Memᴰ f (pairs p) → time_alone (layout_of p) f ≡ time_in (line_of p).times f.task
  unfolding time_in look_in
  time_on f m = rw (lt-ltb f.task 32 (all_member d.tasks m)) (sym (time_drawn p d f m))

  parts_judged : (t : TableRead) → Single t
      → judged_for (layout_of p).control (layout_of p).pairs (time_in (line_of p).times) (bounds_on (line_of p)) t ≡ judged (layout_of p) t
  unfolding layout_of pairs
  parts_judged t single = judged_parts p t (time_in (line_of p).times) single (all_of_members (pairs p) time_on)

  -- What is judged right by the line of a plan is judged right by its layout.
  pub line_right : (t : TableRead) → Single t → {early : Bool} {j : Judgement}
      → Right early (line_of p).releases (line_of p).frames (line_judged (line_of p) (seen (lay_out t))) (frames_on (line_of p)) (seen (lay_out t)) j
      → Right early (line_of p).releases (line_of p).frames (judged (layout_of p) t) (layout_of p).pairs t j
  unfolding line_judged layout_of pairs
  line_right t single r =
      rw (sym (parts_judged t single))
      (seen_right (layout_of p).control (layout_of p).pairs (time_in (line_of p).times) (bounds_on (line_of p)) t single d.controls d.few (rw (controls-on, frames-on) at r))
