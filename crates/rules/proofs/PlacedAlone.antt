-- PlacedAlone: where each pair has a row of its own, as the latest-release rule leaves them, table and frame rows are written straight from
-- the pairs placed, and a pair takes the sending time of its task's size. In these forms code meets the rule and its table.
use mathlib.Core.Path.{◌≡◌, refl, subst}
use mathlib.Core.Bool.{cond, or-false}
use mathlib.Core.List.{List, [], ◌∷◌, ◌++◌, map}
use lib.Dec.{eqb}
use lib.ListN.{length, length-map}
use Prim.Native.Nat.{ℕ, suc, ◌+◌}
use Rattle.laws.specs.Res.{ok}
use Rattle.laws.specs.Lists.{joined}
use Rattle.laws.proofs.Members.{All, empty, also, all_weaker, all_of_members, all_unmap, member_get_or}
use Rattle.rules.specs.Plan.{Plan, the_task}
use Rattle.rules.specs.Traffic.{traffic}
use Rattle.rules.specs.Frames.{Pair, pairs, sending_time, gap_time, cycle_end, control_end, Layout, layout_of}
use Rattle.rules.specs.LatestRelease.{numbered_from, Placed, no_pair, place, time_alone, latest_release}
use Rattle.rules.specs.Table.{
  DataRow,
  held_in,
  pairs_in,
  alone,
  data_row,
  header_bytes,
  control_bytes,
  data_bytes,
  table_bytes,
  FrameRow,
  is_number,
  start_for,
  rows_from,
  made_table,
}
use Rattle.rules.specs.Obeys.{pair_at}
use Rattle.rules.proofs.PlanKept.{PlanKept}
use Rattle.rules.proofs.LaidOut.{LaidOut, gap_within}
use Rattle.rules.proofs.Payload.{time-alone}
use Rattle.rules.proofs.RuleSteps.{place_same, length_numbered, numbered_distinct}
use Rattle.rules.proofs.Placing.{rule-settled, placed_well}
use Rattle.rules.proofs.TableBytes.{DataFits}
use Rattle.rules.proofs.MadePasses.{table_fits}

-- ---- rows, table and frame rows of the pairs placed

unfoldable pub row_alone : (Pair → ℕ) → Placed → DataRow
row_alone time x =
    record { task = x.pair.task; deadline = x.pair.deadline; start = x.start; stop = x.start + time x.pair }

unfoldable pub bytes_alone : Layout → (Pair → ℕ) → List Placed → List ℕ
bytes_alone l time placed =
    header_bytes l.head l.period (length l.control) (length placed)
    ++ (joined (map control_bytes l.control) ++ (joined (map data_bytes (map (row_alone time) placed)) ++ (0 ∷ [])))

-- the start of the pair with this number
unfoldable pub start_alone : List Placed → ℕ → ℕ
start_alone [] k = 0
start_alone (x ∷ xs) k = cond (eqb x.number k) x.start (start_alone xs k)

unfoldable pub rows_alone : List Placed → ℕ → List Pair → List FrameRow
rows_alone placed k [] = []
rows_alone placed k (f ∷ fs) =
    record { task = f.task; release = f.release; deadline = f.deadline; start = start_alone placed k }
    ∷ rows_alone placed (suc k) fs

pub start-alone : (placed : List Placed) (k : ℕ) → start_for (map alone placed) k ≡ start_alone placed k
unfolding start_for start_alone alone held_in is_number
start-alone [] k = refl
start-alone (x ∷ xs) k = rw (or-false (eqb x.number k), start-alone xs k)

pub rows-alone : (placed : List Placed) (k : ℕ) (fs : List Pair) → rows_from (map alone placed) k fs ≡ rows_alone placed k fs
unfolding rows_from rows_alone
rows-alone placed k [] = refl
rows-alone placed k (f ∷ fs) = rw (start-alone placed k, rows-alone placed (suc k) fs)

module _ (l : Layout) (time : Pair → ℕ) where
  -- the pair takes this time, alone in a row
  abbrev pub Takes : Placed → Type 0
  Takes x = time_alone l x.pair ≡ time x.pair

  data_alone : {placed : List Placed} → All Takes placed → map (data_row l) (map alone placed) ≡ map (row_alone time) placed
  unfolding data_row row_alone alone pairs_in held_in time_alone
  data_alone empty = refl
  data_alone (also e r) = rw (e, data_alone r)

  pub bytes-alone : (placed : List Placed) → All Takes placed → table_bytes l (map alone placed) ≡ bytes_alone l time placed
  unfolding table_bytes bytes_alone
  bytes-alone placed a = rw (data_alone a, length-map placed alone)

  pub made-alone : (placed : List Placed) → All Takes placed
      → made_table l (map alone placed) ≡ record { table = bytes_alone l time placed; rows = rows_alone placed 0 l.pairs }
  unfolding made_table
  made-alone placed a = rw (bytes-alone placed a, rows-alone placed 0 l.pairs)

-- ---- what the rule places of a plan

-- the sending time of a pair: that of its task's size
abbrev pub pair_time : Plan → Pair → ℕ
pair_time p f = sending_time p.bus (the_task p f.task).size

numbered_all : {P : Pair → Type 0} (k : ℕ) {fs : List Pair} → All P fs → All (λ x. P x.pair) (numbered_from k fs)
unfolding numbered_from
numbered_all k empty = empty
numbered_all k (also q r) = also q (numbered_all (suc k) r)

module _ (p : Plan) (kept : PlanKept p) where
  -- the rule with these times
  pub rule-alone : latest_release (layout_of p)
      ≡ place p.bus.resolution (gap_time p.bus) (control_end p) (pair_time p) (length (pairs p)) (cycle_end p.bus (traffic p).period)
      (numbered_from 0 (pairs p)) []
  unfolding latest_release layout_of traffic pairs
  rule-alone =
      let left = numbered_from 0 (pairs p) in
      rw (← length_numbered 0 (pairs p))
      (place_same p.bus.resolution (gap_time p.bus) (control_end p) (time_alone (layout_of p)) (pair_time p) (cycle_end p.bus (traffic p).period) left
      (numbered_distinct 0 (pairs p))
      (numbered_all 0 (all_of_members (pairs p) (time-alone p kept))))

  pub rule-takes : (placed : List Placed) → latest_release (layout_of p) ≡ ok placed → All (Takes (layout_of p) (pair_time p)) placed
  unfolding layout_of pairs pair_at
  rule-takes placed rule =
      all_weaker
      (λ x k. subst (λ (f : Pair). time_alone (layout_of p) f ≡ pair_time p f) k.is
      (time-alone p kept (pair_at (layout_of p) x.number) (member_get_or (pairs p) no_pair x.number k.there)))
      (rule-settled (layout_of p) (gap_within p) placed rule).origin

  -- every number of such a row fits its field
  pub rule-rows-fit : LaidOut p (layout_of p) → (placed : List Placed) → latest_release (layout_of p) ≡ ok placed
      → All (λ x. DataFits (row_alone (pair_time p) x)) placed
  unfolding layout_of
  rule-rows-fit h placed rule =
      let well = placed_well (layout_of p) (gap_within p) (λ f. refl) placed rule in
      let fits = (table_fits p kept h (map alone placed) well).rows in
      all_unmap (row_alone (pair_time p)) placed (rw (data_alone (layout_of p) (pair_time p) (rule-takes placed rule)) at fits)

  pub rule-bytes : (placed : List Placed) → latest_release (layout_of p) ≡ ok placed
      → table_bytes (layout_of p) (map alone placed) ≡ bytes_alone (layout_of p) (pair_time p) placed
  rule-bytes placed rule = bytes-alone (layout_of p) (pair_time p) placed (rule-takes placed rule)

  pub rule-made : (placed : List Placed) → latest_release (layout_of p) ≡ ok placed
      → made_table (layout_of p) (map alone placed)
      ≡ record { table = bytes_alone (layout_of p) (pair_time p) placed; rows = rows_alone placed 0 (pairs p) }
  unfolding layout_of pairs
  rule-made placed rule = made-alone (layout_of p) (pair_time p) placed (rule-takes placed rule)
