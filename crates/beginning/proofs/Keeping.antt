-- What is kept of a passed table is what the rules keep: each pair with the times of its row and with its modes, and zeros behind.
use mathlib.Core.Path.{◌≡◌, refl, sym, ap, ◌∙◌}
use mathlib.Core.Bool.{Bool, true, false, cond}
use mathlib.Core.List.{List, map, Memᴰ}
use mathlib.Core.Logic.{◌⊎◌, inl, inr}
use native.Mathlib.Omega.{arith}
use borrow.Author.Tests.{eqb-true}
use lib.Dec.{eqb}
use lib.ListN.{length, get_or, replicate, get_or-replicate, get_or-eq_default}
use lib.Seq.{ext_get_or}
use Prim.Native.Nat.{ℕ, ◌+◌, ◌*◌, ◌/◌, ◌%◌, ◌≤◌, ◌<◌}
use Rattle.rules.specs.Limits.{most_frames}
use Rattle.laws.specs.Lists.{tab}
use Rattle.laws.specs.Loops.{pad_to, stores}
use Rattle.laws.proofs.Arrays.{get_or-laid}
use Rattle.laws.proofs.Bus.{table_at, is-table}
use Rattle.laws.proofs.Lists.{true-false, both_right, tested, length-tab, length-pad_to}
use Rattle.laws.proofs.Loops.{length-stores, stores_at, stores_beyond}
use Rattle.laws.proofs.Members.{All, empty, also, all_member, all_of_places, any_member, member_get_or}
use Rattle.laws.proofs.Orders.{le-or-lt}
use Rattle.places.specs.Bits.{bits_of}
use Rattle.places.proofs.Bits.{bits_agree}
use Rattle.rules.specs.Plan.{Plan}
use Rattle.rules.specs.Traffic.{traffic, has}
use Rattle.rules.specs.Readers.{readers_of}
use Rattle.rules.specs.Frames.{Pair, pairs, no_control_row, layout_of, is_one, has_of}
use Rattle.rules.specs.LatestRelease.{no_pair, time_alone}
use Rattle.rules.specs.Checker.{Named, Row, TableRead, Passed, control_at, no_row, row_at, is_pair_of, holds_pair, row_holding}
use Rattle.rules.specs.Obeys.{pair_at, NamesAll, no_name, one_name, ObeysTable}
use Rattle.rules.specs.Playing.{period_in}
use Rattle.rules.specs.Station as rules
use Rattle.rules.specs.Station.{Kept, passed_pair, passed_row}
use Rattle.rules.proofs.LaidOut.{pairs-kept}
use Rattle.rules.proofs.PairRows.{HoldsPair, pair_row, rides}
use Rattle.rules.proofs.Sent.{has_means, has-is, some-mode}
use Rattle.rules.proofs.TransparentPlan.{control-same, row-lasts}
use Rattle.bus.specs.Readers.{readers_laid}
use Rattle.bus.proofs.Rows.{plan_readers_seen}
use Rattle.control.specs.Control.{node_of, start_of, stop_of}
use Rattle.line.specs.Line.{line_in, line_of, task_of, deadline_of}
use Rattle.line.proofs.Drawn.{Drawn, time_drawn}
use Rattle.judging.specs.Judged.{start_in}
use Rattle.checker.specs.Passing.{starts_of}
use Rattle.stationrefusals.specs.declared.Controls.{Controls}
use Rattle.stationrefusals.specs.declared.Modes.{Modes}
use Rattle.stationrefusals.specs.declared.Modules.{Modules}
use Rattle.stationrefusals.specs.declared.Play.{Play}
use Rattle.stationrefusals.specs.declared.Tasks.{Tasks}
use Rattle.stationnodes.specs.declared.Node.{Node}
use Rattle.station.specs.declared.Station.{Station}
use Rattle.keeping.specs.Keeping as keeping
use Rattle.keeping.specs.Keeping.{by_pair, controls_of, has_message, kept_from, modes_at, modes_in, modes_of, modules_of, run_among, runs_among, runs_of, stop_at, tasks_of}
use Rattle.beginning.specs.Begins.{kept_laid, modes_laid, run_laid}

-- ---- arrays

-- a number of each thing, laid into an array
rows-laid : {A : Type 0} (f : A → ℕ) (l : List A) (d : A) (n : ℕ) → f d ≡ 0 → pad_to n 0 (map f l) ≡ tab (λ k. f (get_or l k d)) 0 n
rows-laid f l d n e =
    let sized = length-pad_to n 0 (map f l) in
    ext_get_or 0 (pad_to n 0 (map f l)) (tab (λ k. f (get_or l k d)) 0 n) (sized ∙ sym (length-tab (λ k. f (get_or l k d)) 0 n))
    (λ k w. let v : k < n = rw sized at w in get_or-laid f l d n k e v ∙ sym (table_at n (λ k. f (get_or l k d)) k 0 v))

abbrev zeros : List ℕ
zeros = replicate most_frames 0

-- a number of each pair, and zeros behind
pairs-laid : (n : ℕ) (f g : ℕ → ℕ) → n ≤ most_frames → ((q : ℕ) → q < n → f q ≡ g q) → ((q : ℕ) → n ≤ q → g q ≡ 0) → by_pair n f ≡ tab g 0 most_frames
unfolding by_pair
pairs-laid n f g few same behind = is-table most_frames g (stores zeros f n) (length-stores zeros f n) (λ q w. place q w (le-or-lt n q))
  where
    place : (q : ℕ) → q < most_frames → (n ≤ q) ⊎ (q < n) → get_or (stores zeros f n) q (g 0) ≡ g q
    place q w (inl h) = stores_beyond zeros f n q (g 0) h ∙ get_or-replicate most_frames q 0 (g 0) w ∙ sym (behind q h)
    place q w (inr h) = stores_at zeros f n q (g 0) h few ∙ same q h

-- ---- stations with the same parts

station_made : {modules : Modules} {modes : Modes} {tasks : Tasks} {controls controls' : Controls} {period pairs : ℕ}
    {runs runs' ts ts' ds ds' starts starts' stops stops' ms ms' : List ℕ} {play : Play} {nodes : List Node}
    → controls ≡ controls' → runs ≡ runs' → ts ≡ ts' → ds ≡ ds' → starts ≡ starts' → stops ≡ stops' → ms ≡ ms'
    → ◌≡◌ {A = Station}
    (record {
      fixed = record { modules = modules; modes = modes; tasks = tasks; controls = controls; period = record { 0 = period }; pairs = pairs };
      runs = runs;
      pair_tasks = ts;
      pair_deadlines = ds;
      pair_starts = starts;
      pair_stops = stops;
      pair_modes = ms;
      play = play;
      nodes = nodes;
    })
    (record {
      fixed = record { modules = modules; modes = modes; tasks = tasks; controls = controls'; period = record { 0 = period }; pairs = pairs };
      runs = runs';
      pair_tasks = ts';
      pair_deadlines = ds';
      pair_starts = starts';
      pair_stops = stops';
      pair_modes = ms';
      play = play;
      nodes = nodes;
    })
station_made h1 h2 h3 h4 h5 h6 h7 = rw (h1, h2, h3, h4, h5, h6, h7)

-- ---- the pairs of a passed table

module _ (p : Plan) (d : Drawn p) (t : TableRead) (obeys : ObeysTable (layout_of p) t) where
  abbrev passed : Passed
  passed = record { plan = p; traffic = traffic p; layout = layout_of p; table = t }

  abbrev k : Kept
  k = rules.kept_of passed

  -- behind the pairs there is none, and no row
  pair-behind : (q : ℕ) → length (pairs p) ≤ q → passed_pair passed q ≡ no_pair
  unfolding passed_pair layout_of pairs
  pair-behind q h = get_or-eq_default (pairs p) no_pair h

  rows-due : All (λ r. (n : Named) → Memᴰ n r.holds → 0 < n.deadline) t.rows
  unfolding row_at
  rows-due =
      all_of_places t.rows no_row
      (λ r w n m. let due = obeys.in_time r w n m in let lasts = row-lasts p d.kept t obeys r w in omega (arith, due, lasts))

  unheld : {rows : List Row} → All (λ r. (n : Named) → Memᴰ n r.holds → 0 < n.deadline) rows → row_holding rows no_pair ≡ no_row
  unfolding row_holding holds_pair is_pair_of
  unheld empty = refl
  unheld (also {x = r} {l = rows} h rest) = go (holds_pair no_pair r) refl (unheld rest)
    where
      go : (b : Bool) → holds_pair no_pair r ≡ b → row_holding rows no_pair ≡ no_row → cond b r (row_holding rows no_pair) ≡ no_row
      go true e q =
          let n = any_member (λ n. is_pair_of n no_pair) r.holds e in
          let none : n.one.deadline ≡ 0 = eqb-true n.one.deadline 0 (both_right (eqb n.one.task 0) _ n.passes) in
          absurd (omega (arith, none, h n.one n.among))
      go false e q = q

  no-row : row_holding t.rows no_pair ≡ no_row
  no-row = unheld rows-due

  row-behind : (q : ℕ) → length (pairs p) ≤ q → passed_row passed q ≡ no_row
  unfolding passed_row
  row-behind q h = rw (pair-behind q h) no-row

  -- the row that a pair rides in takes the time of a message of its task
  module _ (q r : ℕ) (h : HoldsPair (layout_of p) t q r) where
    takes : {ns : List Named} {fs : List Pair} → NamesAll (layout_of p) ns fs → is_one fs ≡ true → Memᴰ h.name ns
        → (layout_of p).time fs ≡ get_or (line_of p).times (pair_at (layout_of p) q).task 0
    unfolding time_alone pair_at pairs layout_of
    takes no_name e m = true-false (sym e)
    takes (one_name {f = f} x no_name) e (mathlib.Core.List.Memᴰ.head s) =
        let among : Memᴰ (pair_at (layout_of p) f) (pairs p) = member_get_or (pairs p) no_pair f x.there in
        let task : (pair_at (layout_of p) f).task ≡ (pair_at (layout_of p) q).task =
        sym x.task ∙ ap (λ (n : Named). n.task) (sym s) ∙ h.names.task in
        sym (time_drawn p d (pair_at (layout_of p) f) among) ∙ ap (λ u. get_or (line_of p).times u 0) task
    takes (one_name x (one_name y rest)) e m = true-false (sym e)
    takes (one_name x no_name) e (mathlib.Core.List.Memᴰ.tail m) = elim m [ ]

    row-stops : (row_at t r).stop ≡ (row_at t r).start + get_or (line_of p).times (pair_at (layout_of p) q).task 0
    unfolding layout_of
    row-stops =
        let n = obeys.names r h.there in
        (obeys.time r h.there).stop n.pairs n.names
        ∙ ap (λ u. (row_at t r).start + u) (takes n.names n.together h.holds)

  pair-stops : (q : ℕ) → q < length (pairs p)
      → (passed_row passed q).stop ≡ (passed_row passed q).start + get_or (line_of p).times (passed_pair passed q).task 0
  unfolding passed_row passed_pair pair_at layout_of pairs
  pair-stops q w =
      let held = pair_row (layout_of p) t obeys refl q w in
      let r = rides (layout_of p) t q held.0 held.1 in
      rw r.1.is (row-stops q r.0 r.1.holds)

  -- ---- what stands in the arrays

  task-at : (q : ℕ) → q < most_frames → get_or (line_of p).tasks q 0 ≡ (passed_pair passed q).task
  unfolding line_of passed_pair
  task-at q w = get_or-laid task_of (layout_of p).pairs no_pair most_frames q refl w

  deadline-at : (q : ℕ) → q < most_frames → get_or (line_of p).deadlines q 0 ≡ (passed_pair passed q).deadline
  unfolding line_of passed_pair
  deadline-at q w = get_or-laid deadline_of (layout_of p).pairs no_pair most_frames q refl w

  none-starts : start_in t.rows no_pair ≡ 0
  unfolding start_in
  none-starts = ap (λ (r : Row). r.start) no-row

  start-at : (q : ℕ) → q < most_frames → get_or (starts_of passed) q 0 ≡ (passed_row passed q).start
  unfolding starts_of passed_row passed_pair start_in
  start-at q w = get_or-laid (start_in t.rows) (layout_of p).pairs no_pair most_frames q none-starts w

  pub stop-at : (q : ℕ) → q < length (pairs p) → stop_at (starts_of passed) (line_of p).tasks (line_of p).times q ≡ (passed_row passed q).stop
  unfolding stop_at
  stop-at q w =
      let v : q < most_frames = omega (arith, d.few) in
      rw (start-at q v, task-at q v) (sym (pair-stops q w))

  -- ---- the modes that have the message of a pair

  run_at : (μ u : ℕ) → μ < 32 → u < 32 → get_or (runs_of p) (μ * 32 + u) 0 ≡ period_in p μ u
  unfolding runs_of runs_among run_among period_in
  run_at μ u v w =
      let m : (μ * 32 + u) / 32 ≡ μ = omega arith in
      let n : (μ * 32 + u) % 32 ≡ u = omega arith in
      table_at 1024 (run_among p p.invocations) (μ * 32 + u) 0 (omega arith) ∙ rw (m, n)

  -- the arrays hold the readers of the pair's task
  abbrev counts : List ℕ
  counts = (readers_laid (readers_of p)).counts

  abbrev periods : List ℕ
  periods = (readers_laid (readers_of p)).periods

  sent_by : (f : Pair) → Memᴰ f (pairs p) → (μ : ℕ) → μ < 32
      → has_message (runs_of p) counts periods f.task f.deadline μ ≡ has (traffic p).messages μ f.task f.deadline
  unfolding has_message has_of
  sent_by f m μ w =
      let some = some-mode p d.kept f m in
      let sent = (has_means p d.kept some.0 f.task f.deadline).says some.1 in
      let high = (all_member (pairs-kept p d.kept) m).deadline in
      let place = all_member d.tasks m in
      rw (run_at μ f.task w place, plan_readers_seen p d.kept f.task place)
      (sym (rw sent.bus at (has-is p d.kept μ f.task f.deadline sent.low high)))

  modes-at : (q : ℕ) → q < length (pairs p) → modes_in p (line_of p).tasks (line_of p).deadlines q ≡ modes_laid k q
  unfolding modes_in modes_at modes_laid rules.kept_of passed_pair layout_of pairs
  modes-at q w =
      let v : q < most_frames = omega (arith, d.few) in
      rw (task-at q v, deadline-at q v)
      (bits_agree (has_message (runs_of p) counts periods (passed_pair passed q).task (passed_pair passed q).deadline) (k.pair_has q) 32
      (sent_by (passed_pair passed q) (member_get_or (pairs p) no_pair q w)))

  -- no message has deadline 0
  none-sent : (μ : ℕ) → has (traffic p).messages μ 0 0 ≡ false
  none-sent μ = go (tested (has (traffic p).messages μ 0 0))
    where
      go : (has (traffic p).messages μ 0 0 ≡ true) ⊎ (has (traffic p).messages μ 0 0 ≡ false) → has (traffic p).messages μ 0 0 ≡ false
      go (inl e) = absurd (omega (arith, ((has_means p d.kept μ 0 0).says e).low))
      go (inr e) = e

  no_modes : (q : ℕ) → length (pairs p) ≤ q → modes_laid k q ≡ 0
  unfolding modes_laid rules.kept_of bits_of
  no_modes q h =
      bits_agree (k.pair_has q) (λ μ. false) 32 (λ μ w. rw (pair-behind q h) (none-sent μ))

  -- ---- the whole

  runs-laid : runs_of p ≡ tab (run_laid k) 0 1024
  unfolding runs_of runs_among run_among run_laid rules.kept_of period_in
  runs-laid = refl

  controls-laid : controls_of (line_in (line_of p)) ≡ (kept_laid k).fixed.controls
  unfolding controls_of line_of layout_of kept_laid rules.kept_of control_at
  controls-laid =
      let rows = control-same p d.kept t obeys in
      rw (
        rows,
        rows-laid node_of (layout_of p).control no_control_row 8 refl,
        rows-laid start_of (layout_of p).control no_control_row 8 refl,
        rows-laid stop_of (layout_of p).control no_control_row 8 refl,
      )

  starts-laid : starts_of passed ≡ tab k.pair_start 0 most_frames
  unfolding starts_of start_in rules.kept_of passed_row passed_pair
  starts-laid = rows-laid (start_in t.rows) (layout_of p).pairs no_pair most_frames none-starts

  stops-laid : by_pair (length (pairs p)) (stop_at (starts_of passed) (line_of p).tasks (line_of p).times) ≡ tab k.pair_stop 0 most_frames
  unfolding rules.kept_of
  stops-laid =
      pairs-laid (length (pairs p)) (stop_at (starts_of passed) (line_of p).tasks (line_of p).times) k.pair_stop d.few stop-at
      (λ q h. ap (λ (r : Row). r.stop) (row-behind q h))

  modes-laid : by_pair (length (pairs p)) (modes_in p (line_of p).tasks (line_of p).deadlines) ≡ tab (modes_laid k) 0 most_frames
  modes-laid =
      pairs-laid (length (pairs p)) (modes_in p (line_of p).tasks (line_of p).deadlines) (modes_laid k) d.few modes-at no_modes

  pub kept_whole : kept_from p (line_in (line_of p)) (line_of p).tasks (line_of p).deadlines (starts_of passed) ≡ kept_laid k
  unfolding kept_from modules_of modes_of tasks_of keeping.home_of keeping.period_of keeping.switch_of keeping.task_home keeping.task_size keeping.task_worst line_of layout_of pairs kept_laid rules.kept_of passed_pair
  kept_whole =
      station_made controls-laid runs-laid (rows-laid task_of (pairs p) no_pair most_frames refl) (rows-laid deadline_of (pairs p) no_pair most_frames refl)
      starts-laid stops-laid modes-laid
