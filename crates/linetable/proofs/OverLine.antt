-- The latest-release rule over the arrays of a line is the rule over the layout of its plan.
use mathlib.Core.Path.{◌≡◌, ap, ◌∙◌}
use mathlib.Core.List.{List, [], Memᴰ}
use mathlib.Core.Logic.{◌⊎◌, inl, inr}
use native.Mathlib.Nat.{le_refl, eq-or-lt_of_le}
use native.Mathlib.Omega.{arith}
use lib.ListN.{length, get_or}
use Prim.Native.Nat.{ℕ, suc, ◌-◌, ◌≤◌, ◌<◌}
use Rattle.laws.specs.Lists.{tab}
use Rattle.laws.proofs.Members.{All, empty, also, all_of_members, pairs-get_or}
use Rattle.rules.specs.Plan.{Plan}
use Rattle.rules.specs.Frames.{Pair, pairs, cycle_end, layout_of}
use Rattle.rules.specs.LatestRelease.{no_pair, numbered_from, place, time_alone, latest_release}
use Rattle.rules.proofs.PairsOf.{before_case}
use Rattle.rules.proofs.RuleSteps.{length_numbered, numbered_distinct, place_same}
use Rattle.placing.specs.Placing.{frame_at, time_of}
use Rattle.table.specs.Rows.{control_in}
use Rattle.line.specs.Line as line
use Rattle.line.proofs.Drawn.{Drawn, frame_of, control_of, frame_drawn, frames_drawn, controls_drawn, time_drawn}

module _ (p : Plan) (d : Drawn p) where
  pub frames_are : tab (frame_at (line.line_of p).tasks (line.line_of p).releases (line.line_of p).deadlines) 0 (line.line_of p).frames ≡ pairs p
  unfolding line.line_of layout_of pairs frame_at frame_of
  frames_are = frames_drawn p d

  pub time-is : (f : Pair) → Memᴰ f (pairs p) → time_of (line.line_of p).times f ≡ time_alone (layout_of p) f
  unfolding time_of
  time-is = time_drawn p d

  pub deadlines_rise : (i j : ℕ) → i ≤ j → j < (line.line_of p).frames → get_or (line.line_of p).deadlines i 0 ≤ get_or (line.line_of p).deadlines j 0
  unfolding line.line_of layout_of pairs frame_of
  deadlines_rise i j h w = in_order (eq-or-lt_of_le h)
    where
      at : (k : ℕ) → k < length (pairs p) → get_or (line.line_of p).deadlines k 0 ≡ (get_or (pairs p) k no_pair).deadline
      at k v = ap (λ (f : Pair). f.deadline) (frame_drawn p d k v)

      in_order : (i ≡ j) ⊎ (i < j) → get_or (line.line_of p).deadlines i 0 ≤ get_or (line.line_of p).deadlines j 0
      in_order (inl q) = rw q (le_refl _)
      in_order (inr q) =
          rw (at i (omega arith), at j w)
          (before_case (get_or (pairs p) i no_pair) (get_or (pairs p) j no_pair) (pairs-get_or no_pair d.sorted i j q w) (λ e. omega arith) (λ e t. omega arith))

  numbered_all : {P : Pair → Type 0} (k : ℕ) {fs : List Pair} → All P fs → All (λ x. P x.pair) (numbered_from k fs)
  unfolding numbered_from
  numbered_all k empty = empty
  numbered_all k (also q r) = also q (numbered_all (suc k) r)

  -- the latest-release rule as the arrays have it
  pub rule-is : place (line.line_of p).resolution.0 (line.line_of p).gap.0 (line.line_of p).floor.0 (time_of (line.line_of p).times) (line.line_of p).frames ((line.line_of p).period.0 - (line.line_of p).gap.0)
      (numbered_from 0 (tab (frame_at (line.line_of p).tasks (line.line_of p).releases (line.line_of p).deadlines) 0 (line.line_of p).frames)) []
      ≡ latest_release (layout_of p)
  unfolding line.line_of latest_release layout_of cycle_end pairs
  rule-is =
      let l = layout_of p in
      let time = time_of (line.line_of p).times in
      ap (λ (fs : List Pair). place l.grid l.gap l.floor time (length (pairs p)) l.end (numbered_from 0 fs) []) frames_are
      ∙ rw (← length_numbered 0 (pairs p))
      (place_same l.grid l.gap l.floor time (time_alone l) l.end (numbered_from 0 (pairs p)) (numbered_distinct 0 (pairs p))
      (numbered_all 0 (all_of_members (pairs p) time-is)))

  pub controls_are : tab (control_in (line.line_of p).control_nodes (line.line_of p).control_starts (line.line_of p).control_stops) 0 (line.line_of p).controls ≡ (layout_of p).control
  unfolding line.line_of control_in control_of
  controls_are = controls_drawn p d
