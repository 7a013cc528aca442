-- What is written from a line and its placed frames is the layout's table, and the rows beside it are its frame rows.
use mathlib.Core.Path.{◌≡◌, refl, sym, ap, ◌∙◌, subst}
use mathlib.Core.List.{List, map, map-map, Memᴰ}
use native.Mathlib.Nat.{mod-eq_of_lt}
use native.Mathlib.Omega.{arith}
use lib.ListN.{length, get_or, replicate, length-map}
use Prim.Native.Nat.{ℕ, ◌+◌, ◌≤◌, ◌<◌}
use Rattle.rules.specs.Limits.{most_frames}
use Rattle.laws.specs.Res.{ok}
use Rattle.laws.specs.Lists.{tab}
use Rattle.laws.specs.Loops.{pad_to, stores}
use Rattle.laws.proofs.Loops.{stores_at}
use Rattle.laws.proofs.Arrays.{tab_list, get_or-laid}
use Rattle.laws.proofs.Members.{All, all_get_d, all_weaker, all_unmap, map-get_or, member_get_or}
use Rattle.rules.specs.Plan.{Plan}
use Rattle.rules.specs.Frames.{Pair, pairs, Layout, layout, layout_of}
use Rattle.rules.specs.LatestRelease.{Placed, no_pair, time_alone, latest_release}
use Rattle.rules.specs.Table.{DataRow, PlacedRow, held_in, pairs_in, alone, data_row, table_bytes, table_length, rows_from}
use Rattle.rules.specs.Obeys.{IsPair, pair_at}
use Rattle.rules.specs.RuleSteps.{unplaced}
use Rattle.rules.proofs.LaidOut.{laid_out, gap_within}
use Rattle.rules.proofs.Placing.{Settled, rule-settled, placed_well}
use Rattle.rules.proofs.TableBytes.{DataFits, TableFits}
use Rattle.rules.proofs.MadePasses.{table_fits}
use Rattle.line.specs.Line as line
use Rattle.line.specs.Line.{task_of, deadline_of}
use Rattle.placing.specs.Placing.{number_of, start_of, time_of}
use Rattle.rows.specs.Rows.{Rows, TableRows, rows_laid, scattered, task_at, stop_at, table_rows}
use Rattle.rules.proofs.TableLength.{table-length}
use Rattle.table.specs.Rows.{control_in, data_in, table_in}
use Rattle.line.proofs.Drawn.{Drawn, drawn}
use Rattle.linetable.proofs.OverLine.{time-is, controls_are}
use Rattle.linetable.proofs.Scattered.{no_placed, tasks_are, releases_are, deadlines_are, rows-count, starts-scattered}
use Rattle.rules.specs.Traffic.{read_in}
use Rattle.rules.proofs.Editions.{readable_kept_in}
use mathlib.Core.Bool.{Bool}
use Rattle.rules.proofs.Heads.{IsHead, head-of}
use Rattle.table.proofs.Glued.{head_in_lem}

-- the head of a plan's table is one of the two kinds
its_head : (p : Plan) → IsHead (layout_of p).head
unfolding layout_of
its_head p = head-of p.consumers

pub bytes-long : (p : Plan) (rows : List PlacedRow) → length rows ≡ length (layout_of p).pairs
    → length (table_bytes (layout_of p) rows) ≡ table_length (length (layout_of p).control) (length (layout_of p).pairs)
bytes-long p rows e = table-length (layout_of p) (its_head p) rows ∙ ap (table_length (length (layout_of p).control)) e

-- ---- facts of what was placed

-- what is said of a plan and of its placed frames
pub record Fair (p : Plan) (placed : List Placed) : Type 0 where
  pub is_drawn : Drawn p
  pub settled : Settled (layout_of p) placed
  pub fits : TableFits (layout_of p) (map alone placed)

pub fair : (consumers : Bool) (file : List ℕ) (p : Plan) (placed : List Placed) → read_in consumers file ≡ ok p → layout p ≡ ok (layout_of p) → latest_release (layout_of p) ≡ ok placed → Fair p placed
unfolding layout_of
fair consumers file p placed is_read is_laid rule =
    record {
      is_drawn = drawn consumers file p (layout_of p) is_read is_laid;
      settled = rule-settled (layout_of p) (gap_within p) placed rule;
      fits =
          table_fits p (readable_kept_in consumers file p is_read) (laid_out p (layout_of p) is_laid) (map alone placed)
          (placed_well (layout_of p) (gap_within p) (λ f. refl) placed rule);
    }

module _ (p : Plan) (placed : List Placed) (h : Fair p placed) where
  abbrev l : Layout
  l = layout_of p

  abbrev n : ℕ
  n = length (pairs p)

  abbrev number : List ℕ
  number = pad_to most_frames 0 (map number_of placed)

  abbrev start : List ℕ
  start = pad_to most_frames 0 (map start_of placed)

  abbrev put : ℕ → Placed
  put j = get_or placed j no_placed

  few : n ≤ most_frames
  few = h.is_drawn.few

  count : length placed ≡ n
  unfolding layout_of pairs
  count = h.settled.count

  number-at : (j : ℕ) → j < n → get_or number j 0 ≡ (put j).number
  number-at j w = let f : n ≤ most_frames = few in get_or-laid number_of placed no_placed most_frames j refl (omega arith)

  start-at : (j : ℕ) → j < n → get_or start j 0 ≡ (put j).start
  start-at j w = let f : n ≤ most_frames = few in get_or-laid start_of placed no_placed most_frames j refl (omega arith)

  known : (j : ℕ) → j < n → IsPair l (unplaced (put j))
  known j w = all_get_d no_placed h.settled.origin j (rw count w)

  -- a number of frame `number j`, read off its array
  column : (g : Pair → ℕ) → g no_pair ≡ 0 → (j : ℕ) → j < n → get_or (pad_to most_frames 0 (map g (pairs p))) (get_or number j 0) 0 ≡ g (put j).pair
  unfolding layout_of pairs pair_at
  column g e j w =
      let f : n ≤ most_frames = few in
      let v : (put j).number < n = (known j w).there in
      ap (λ (k : ℕ). get_or (pad_to most_frames 0 (map g (pairs p))) k 0) (number-at j w)
      ∙ get_or-laid g (pairs p) no_pair most_frames (put j).number e (omega arith) ∙ ap g (known j w).is

  among : (j : ℕ) → j < n → Memᴰ (put j).pair (pairs p)
  unfolding layout_of pairs pair_at
  among j w =
      let k = known j w in
      subst (λ (f : Pair). Memᴰ f (pairs p)) k.is (member_get_or (pairs p) no_pair (put j).number k.there)

  -- the data row of a frame that is placed
  abbrev row : Placed → DataRow
  row x = data_row l (alone x)

  data_fits : (j : ℕ) → j < n → DataFits (row (put j))
  data_fits j w = all_get_d no_placed (all_unmap alone placed (all_unmap (data_row l) (map alone placed) h.fits.rows)) j (rw count w)

  abbrev tasks : List ℕ
  tasks = (line.line_of p).tasks

  abbrev time : List ℕ
  time = (line.line_of p).times

  task-at : (j : ℕ) → j < n → task_at tasks number j ≡ (put j).pair.task
  unfolding task_at line.line_of layout_of pairs
  task-at j w = column task_of refl j w

  deadline-at : (j : ℕ) → j < n → task_at (line.line_of p).deadlines number j ≡ (put j).pair.deadline
  unfolding task_at line.line_of layout_of pairs
  deadline-at j w = column deadline_of refl j w

  stop-at : (j : ℕ) → j < n → stop_at tasks time number start j ≡ (put j).start + time_alone l (put j).pair
  unfolding stop_at time_of data_row alone pairs_in held_in time_alone
  stop-at j w =
      let t : get_or time (put j).pair.task 0 ≡ time_alone l (put j).pair = time-is p h.is_drawn (put j).pair (among j w) in
      rw (start-at j w, task-at j w, t) (mod-eq_of_lt (data_fits j w).stop)

  -- ---- the table

  abbrev rows : TableRows
  rows = table_rows tasks (line.line_of p).deadlines time number start n

  abbrev written : ℕ → DataRow
  written = data_in rows.tasks rows.deadlines start rows.stops

  filled_at : (f : ℕ → ℕ) (j : ℕ) → j < n → get_or (stores (replicate most_frames 0) f n) j 0 ≡ f j
  filled_at f j w = stores_at (replicate most_frames 0) f n j 0 w few

  row-at : (j : ℕ) → j < n → written j ≡ get_or (map row placed) j (row no_placed)
  unfolding data_in table_rows data_row alone pairs_in held_in time_alone
  row-at j w =
      let v : j < length placed = rw count w in
      rw (filled_at (task_at tasks number) j w, filled_at (task_at (line.line_of p).deadlines number) j w, filled_at (stop_at tasks time number start) j w, task-at j w, deadline-at j w, stop-at j w, start-at j w)
      (sym (map-get_or row placed no_placed (row no_placed) j v))

  rows_written : tab written 0 n ≡ map (data_row l) (map alone placed)
  rows_written = tab_list written (map row placed) (row no_placed) n (sym count ∙ sym (length-map placed row)) row-at ∙ sym (map-map (data_row l) alone placed)

  pub table-written : table_in (line.line_of p).head (line.line_of p).period.0 (tab (control_in (line.line_of p).control_nodes (line.line_of p).control_starts (line.line_of p).control_stops) 0 (line.line_of p).controls)
      (tab written 0 n) (line.line_of p).controls n
      ≡ table_bytes l (map alone placed)
  unfolding table_in table_bytes line.line_of
  table-written = rw (rows_written, controls_are p h.is_drawn, length-map placed alone, count, head_in_lem (its_head p) l.period (length l.control) n)

  -- ---- the frame rows

  below : All (λ x. x.number < n) placed
  unfolding layout_of pairs
  below = all_weaker (λ x k. k.there) h.settled.origin

  pub rows_are : (r : Rows) → r.frames ≡ n → r.tasks ≡ tasks → r.releases ≡ (line.line_of p).releases → r.deadlines ≡ (line.line_of p).deadlines
      → r.starts ≡ scattered number start n (replicate most_frames 0) → r ≡ rows_laid (rows_from (map alone placed) 0 (pairs p))
  unfolding rows_laid line.line_of layout_of pairs
  rows_are r e₁ e₂ e₃ e₄ e₅ =
      rw (e₁, e₂, e₃, e₄, e₅, rows-count placed 0 (pairs p), tasks_are placed 0 (pairs p), releases_are placed 0 (pairs p), deadlines_are placed 0 (pairs p), starts-scattered placed (pairs p) few count below)
