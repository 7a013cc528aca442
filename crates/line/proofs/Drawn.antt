-- The arrays of a line stand for its plan's layout: the frames, their order, their times, the control rows.
use mathlib.Core.Path.{◌≡◌, refl, sym, ap, ◌∙◌}
use mathlib.Core.List.{List, Memᴰ}
use native.Mathlib.Nat.{zero-add}
use native.Mathlib.Omega.{arith}
use lib.ListN.{length, get_or}
use Prim.Native.Nat.{ℕ, ◌≤◌, ◌<◌}
use Rattle.rules.specs.Limits.{most_frames}
use Rattle.laws.specs.Res.{ok}
use Rattle.laws.specs.Lists.{tab}
use Rattle.laws.proofs.Lists.{get_or-tab}
use Rattle.laws.proofs.Arrays.{tab_list, get_or-laid}
use Rattle.laws.proofs.Members.{All, Pairs, all_weaker, all_member}
use Rattle.rules.specs.Plan.{Plan}
use Rattle.rules.specs.Frames.{Pair, pairs, ControlRow, no_control_row, Layout, layout, layout_of}
use Rattle.rules.specs.LatestRelease.{no_pair, time_alone}
use Rattle.rules.proofs.PlanKept.{PlanKept}
use Rattle.rules.proofs.LaidOut.{LaidOut, laid_out, pairs-kept, control-count}
use Rattle.rules.proofs.Payload.{time-alone}
use Rattle.rules.proofs.PairsOf.{Before, plan-pairs}
use Rattle.control.specs.Control.{node_of, start_of, stop_of}
use Rattle.line.specs.Line.{line_of, task_of, release_of, deadline_of}
use Rattle.payloads.specs.Tests.{task_time}
use Rattle.rules.specs.Traffic.{read_in}
use Rattle.rules.proofs.Editions.{readable_kept_in}
use mathlib.Core.Bool.{Bool}

-- What holds of the layout of a plan that was read and laid out.
pub record Drawn (p : Plan) : Type 0 where
  pub kept : PlanKept p
  pub few : length (pairs p) ≤ most_frames
  pub sorted : Pairs Before (pairs p)
  pub tasks : All (λ f. f.task < 32) (pairs p)
  pub controls : length (layout_of p).control ≤ 8

pub drawn : (consumers : Bool) (file : List ℕ) (p : Plan) (l : Layout) → read_in consumers file ≡ ok p → layout p ≡ ok l → Drawn p
unfolding layout_of pairs
drawn consumers file p l r e =
    let kept : PlanKept p = readable_kept_in consumers file p r in
    let laid : LaidOut p l = laid_out p l e in
    record {
      kept = kept;
      few = laid.few;
      sorted = (plan-pairs p).sorted;
      tasks = all_weaker (λ f h. omega (arith, h.task, kept.task_count.most)) (pairs-kept p kept);
      controls = omega (arith, control-count p, kept.node_count.most);
    }

-- a pair and a control row, read off the arrays of a line
unfoldable pub frame_of : Plan → ℕ → Pair
frame_of p k = record { task = get_or (line_of p).tasks k 0; release = get_or (line_of p).releases k 0; deadline = get_or (line_of p).deadlines k 0 }

unfoldable pub control_of : Plan → ℕ → ControlRow
control_of p k = record { node = get_or (line_of p).control_nodes k 0; start = get_or (line_of p).control_starts k 0; stop = get_or (line_of p).control_stops k 0 }

same-pair : {t r d t' r' d' : ℕ} → t ≡ t' → r ≡ r' → d ≡ d'
    → ◌≡◌ {A = Pair} (record { task = t; release = r; deadline = d }) (record { task = t'; release = r'; deadline = d' })
same-pair e f g = rw (e, f, g)

module _ (p : Plan) (d : Drawn p) where
  pub frame_drawn : (k : ℕ) → k < length (pairs p) → frame_of p k ≡ get_or (pairs p) k no_pair
  unfolding frame_of line_of layout_of pairs
  frame_drawn k h =
      let w : k < most_frames = omega (arith, d.few) in
      same-pair (get_or-laid task_of (pairs p) no_pair most_frames k refl w) (get_or-laid release_of (pairs p) no_pair most_frames k refl w)
      (get_or-laid deadline_of (pairs p) no_pair most_frames k refl w)

  pub frames_drawn : tab (frame_of p) 0 (length (pairs p)) ≡ pairs p
  frames_drawn = tab_list (frame_of p) (pairs p) no_pair (length (pairs p)) refl frame_drawn

  pub controls_drawn : tab (control_of p) 0 (length (layout_of p).control) ≡ (layout_of p).control
  unfolding control_of line_of
  controls_drawn =
      tab_list (control_of p) (layout_of p).control no_control_row (length (layout_of p).control) refl λ k h.
      let w : k < 8 = omega (arith, d.controls) in
      rw (get_or-laid node_of (layout_of p).control no_control_row 8 k refl w, get_or-laid start_of (layout_of p).control no_control_row 8 k refl w, get_or-laid stop_of (layout_of p).control no_control_row 8 k refl w)

  -- the time of a task's message is that of a row with one of its pairs
  pub time_drawn : (f : Pair) → Memᴰ f (pairs p) → get_or (line_of p).times f.task 0 ≡ time_alone (layout_of p) f
  unfolding line_of task_time
  time_drawn f m =
      get_or-tab (task_time p) 0 32 f.task 0 (all_member d.tasks m) ∙ ap (task_time p) (zero-add f.task) ∙ sym (time-alone p d.kept f m)
