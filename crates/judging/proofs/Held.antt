-- The rules on rows that stand in arrays are the rules on the table that the arrays stand for.
use mathlib.Core.Path.{◌≡◌, refl, sym, ap, ◌∙◌}
use mathlib.Core.Bool.{Bool}
use mathlib.Core.List.{List}
use mathlib.Core.Option.{Option, none, some}
use native.Mathlib.Nat.{zero-add, le_refl}
use native.Mathlib.Omega.{arith}
use lib.ListN.{length, get_or, replicate, length-replicate}
use borrow.Author.Tests.{lt-ltb}
use Prim.Native.Nat.{ℕ, zero, suc, ◌+◌, ◌≤◌, ◌<◌}
use Rattle.rules.specs.Limits.{most_frames}
use Rattle.laws.specs.Res.{Res, at, unless, ◌>>◌}
use Rattle.laws.specs.Lists.{first_bad, tab, up_to, last_d}
use Rattle.laws.specs.Loops.{stores}
use Rattle.laws.proofs.Lists.{length-tab}
use Rattle.laws.proofs.Loops.{stores_at, first_bad-up_to-passes}
use Rattle.rules.specs.Frames.{ControlRow, no_control_row}
use Rattle.rules.specs.Checker.{Row, name_of, row_of, row_at, stop_before, first_row, last_row, rows_keep}
use Rattle.judging.specs.declared.Bounds.{Bounds}
use Rattle.naming.specs.Places.{Numbered, look_in, before_in, number_of, number_at, is_new}
use Rattle.table.specs.Memory.{Table, row_seen, seen}
use Rattle.table.specs.Rows.{control_in, data_in}
use Rattle.datarows.specs.Rows.{time_kept, release_kept, due_kept, gap_kept, last_kept}
use Rattle.judging.specs.Judged.{times_in_order, in_order, names_new, time_fits, release_fits, due_fits, gap_fits, end_fits, times_judged, rows_judged, frame_in, frames_in, time_in}
use Rattle.laws.proofs.Turns.{same_bad}
use Rattle.laws.proofs.Arrays.{last-tab}
use Rattle.judging.proofs.NamedFrames.{named_frame, named-task, row-at, new-names, new-within}

pub look_within : (room : ℕ) (a : List ℕ) (k : ℕ) → k < room → look_in room a k ≡ get_or a k 0
unfolding look_in
look_within room a k h = rw (lt-ltb k room h)

-- the stop of the last control row
unfoldable pub last_stop : Table → ℕ
last_stop t = (last_d (tab (control_in t.control_nodes t.control_starts t.control_stops) 0 t.controls) no_control_row).stop

pub last-stop : (t : Table) → before_in t.control_stops 0 t.controls ≡ last_stop t
unfolding last_stop control_in
last-stop t = here t.controls
  where
    here : (n : ℕ) → before_in t.control_stops 0 n ≡ (last_d (tab (control_in t.control_nodes t.control_starts t.control_stops) 0 n) no_control_row).stop
    here zero = refl
    here (suc k) =
        ap (λ (j : ℕ). get_or t.control_stops j 0) (sym (zero-add k))
        ∙ ap (λ (r : ControlRow). r.stop) (sym (last-tab (control_in t.control_nodes t.control_starts t.control_stops) 0 k no_control_row))

module _ (tasks releases deadlines times : List ℕ) (frames : ℕ) (n : Numbered tasks deadlines frames) (b : Bounds) (t : Table)
    (room : t.rows ≤ most_frames) (last : ℕ) (is_last : last ≡ last_stop t) where
  -- the number of each row's frame
  abbrev numbered : List ℕ
  numbered = stores (replicate most_frames 0) (number_at tasks deadlines frames t.tasks t.deadlines) t.rows

  pub number-given : (j : ℕ) → j < t.rows → get_or numbered j 0 ≡ number_of tasks deadlines frames (row_seen t j).opens.task (row_seen t j).opens.deadline
  unfolding number_at row_seen data_in row_of name_of
  number-given j h =
      stores_at (replicate most_frames 0) (number_at tasks deadlines frames t.tasks t.deadlines) t.rows j 0 h
      (rw (length-replicate {A = ℕ} most_frames 0) room)

  seen_at : (k : ℕ) → k < t.rows → row_at (seen t) k ≡ row_seen t k
  unfolding seen
  seen_at k h =
      row-at tasks releases deadlines frames n (row_seen t) t.rows numbered number-given (seen t) refl k h

  module _ (k : ℕ) (h : k < t.rows) (named : get_or numbered k 0 < frames) where
    known : number_of tasks deadlines frames (row_seen t k).opens.task (row_seen t k).opens.deadline < frames
    known = rw (sym (number-given k h)) named

    time-same : time_kept t.tasks t.starts t.stops times b.resolution.0 k
        ≡ time_fits (frames_in tasks releases deadlines frames) (time_in times) b (seen t) k
    unfolding time_kept time_fits time_in row_seen data_in row_of name_of
    time-same = rw (seen_at k h, named-task tasks releases deadlines frames (row_seen t k).opens known)

    release-same : release_kept t.starts releases numbered k ≡ release_fits (frames_in tasks releases deadlines frames) (seen t) k
    unfolding release_kept release_fits frame_in row_seen data_in row_of name_of
    release-same =
        rw (
          seen_at k h,
          named_frame tasks releases deadlines frames (row_seen t k).opens known,
          look_within most_frames releases (get_or numbered k 0) (omega (arith, n.room)),
          number-given k h,
        )

  due-same : (k : ℕ) → k < t.rows → due_kept t.stops t.deadlines k ≡ due_fits (seen t) k
  unfolding due_kept due_fits row_seen data_in row_of name_of
  due-same k h = rw (seen_at k h)

  before_same : (k : ℕ) → k ≤ t.rows → before_in t.stops last k ≡ stop_before (seen t) k
  unfolding seen last_stop row_seen data_in row_of
  before_same zero h = is_last
  before_same (suc k) h = sym (ap (λ (r : Row). r.stop) (seen_at k h))

  gap_same : (k : ℕ) → k < t.rows → gap_kept t.starts t.stops last b.gap.0 k ≡ gap_fits b (seen t) k
  unfolding gap_kept gap_fits row_seen data_in row_of
  gap_same k h = rw (seen_at k h, before_same k (omega arith))

  first-row : first_row (seen t) ≡ 1 + t.controls
  unfolding first_row seen
  first-row = ap (λ (n : ℕ). 1 + n) (length-tab (control_in t.control_nodes t.control_starts t.control_stops) 0 t.controls)

  row_count : length (seen t).rows ≡ t.rows
  unfolding seen
  row_count = length-tab (row_seen t) 0 t.rows

  end_same : last_kept t.stops last b.gap.0 b.period.0 t.rows ≡ end_fits b (seen t)
  unfolding last_kept end_fits
  end_same = rw (row_count, before_same t.rows (le_refl t.rows))

  last_row_lem : last_row (seen t) ≡ t.controls + t.rows
  unfolding last_row seen
  last_row_lem =
      rw (
        length-tab (control_in t.control_nodes t.control_starts t.control_stops) 0 t.controls,
        length-tab (row_seen t) 0 t.rows,
      )

  -- a rule by places is the rule by rows
  rows-keep : (number : ℕ) (here there : ℕ → Bool) → ((k : ℕ) → k < t.rows → here k ≡ there k)
      → at number (1 + t.controls) (first_bad here (up_to t.rows)) ≡ rows_keep number (seen t) there
  unfolding rows_keep
  rows-keep number here there same = rw (first-row, row_count, same_bad here there t.rows same)

  -- the first row that breaks each rule
  abbrev unnamed : Option ℕ
  unnamed = first_bad (is_new numbered frames) (up_to t.rows)

  abbrev mistimed : Option ℕ
  mistimed = first_bad (time_kept t.tasks t.starts t.stops times b.resolution.0) (up_to t.rows)

  abbrev early : Option ℕ
  early = first_bad (release_kept t.starts releases numbered) (up_to t.rows)

  abbrev late : Option ℕ
  late = first_bad (due_kept t.stops t.deadlines) (up_to t.rows)

  abbrev crowded : Option ℕ
  crowded = first_bad (gap_kept t.starts t.stops last b.gap.0) (up_to t.rows)

  -- what rule 28 says
  abbrev ending : Res (Unit {0})
  ending = unless 28 (t.controls + t.rows) (last_kept t.stops last b.gap.0 b.period.0 t.rows)

  module _ (e : unnamed ≡ none) where
    all_named : (k : ℕ) → k < t.rows → get_or numbered k 0 < frames
    all_named k h = new-within numbered frames k (first_bad-up_to-passes (is_new numbered frames) t.rows k e h)

    by_rules : times_in_order (1 + t.controls) mistimed early late crowded ending
        ≡ times_judged (frames_in tasks releases deadlines frames) (time_in times) b (seen t)
    unfolding times_judged
    by_rules =
        rw (
          rows-keep 24 (time_kept t.tasks t.starts t.stops times b.resolution.0) (time_fits (frames_in tasks releases deadlines frames) (time_in times) b (seen t)) (λ k h. time-same k h (all_named k h)),
          rows-keep 25 (release_kept t.starts releases numbered) (release_fits (frames_in tasks releases deadlines frames) (seen t)) (λ k h. release-same k h (all_named k h)),
          rows-keep 26 (due_kept t.stops t.deadlines) (due_fits (seen t)) due-same,
          rows-keep 27 (gap_kept t.starts t.stops last b.gap.0) (gap_fits b (seen t)) gap_same,
          last_row_lem,
          end_same,
        )

  -- Rules 23 to 28 by places are rules 23 to 28.
  pub rows-judged : in_order (1 + t.controls) unnamed mistimed early late crowded ending
      ≡ rows_judged (frames_in tasks releases deadlines frames) (time_in times) b (seen t)
  unfolding rows_judged seen
  rows-judged =
      here unnamed refl
      ∙ ap (λ (m : Res (Unit {0})). ◌>>◌ m (times_judged (frames_in tasks releases deadlines frames) (time_in times) b (seen t)))
      (rows-keep 23 (is_new numbered frames) (names_new (frames_in tasks releases deadlines frames) (seen t))
      (new-names tasks releases deadlines frames n (row_seen t) t.rows numbered number-given (seen t) refl))
    where
      here : (o : Option ℕ) → unnamed ≡ o
          → in_order (1 + t.controls) o mistimed early late crowded ending
          ≡ ◌>>◌ (at 23 (1 + t.controls) o) (times_judged (frames_in tasks releases deadlines frames) (time_in times) b (seen t))
      here none e = by_rules e
      here (some k) e = refl
