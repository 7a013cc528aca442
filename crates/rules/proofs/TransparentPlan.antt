-- Demand 3, the plan's part: what a plan and a passed table keep of each task is what the station's proof asks.
use mathlib.Core.Path.{◌≡◌, refl, sym, ap, ◌∙◌, subst}
use mathlib.Core.Bool.{true, false}
use mathlib.Core.List.{List, ◌∷◌, Memᴰ}
use native.Mathlib.Nat.{dvd_trans, zero-mul, zero-lt-suc, le-max_left, mul-pos}
use native.Mathlib.Omega.{arith}
use borrow.Author.Tests.{ltb-true, eq-eqb, lt-ltb}
use lib.ListN.{length}
use lib.Seq.{ext_get_or}
use Prim.Native.Nat.{ℕ, zero, suc, ◌+◌, ◌*◌, max, ◌≤◌, ◌<◌, ◌∣◌, zero-le, suc-le-suc}
use Rattle.laws.specs.Lists.{up_to}
use Rattle.laws.specs.Numbers.{ceil}
use Rattle.laws.proofs.Lists.{both, true-false}
use Rattle.laws.proofs.Divisors.{ceil-enough, up-enough}
use Rattle.laws.proofs.Members.{All, empty, also, all_weaker, all_member, all_get_d}
use Rattle.laws.proofs.Members.{member_map, pairs-get_or, chain_pairs, member_get_or, member_tab, keep_member, keep-passes}
use Rattle.laws.proofs.Orders.{compare_case}
use Rattle.laws.proofs.Places.{member_place, member_some}
use Rattle.laws.proofs.Tests.{by_same, by_itself}
use Rattle.rules.specs.Plan.{Bus, Plan, no_mode, no_task, the_mode, the_task, period_of}
use Rattle.rules.specs.Traffic.{module_node, is_bus_task, is_sending, stands_on, senders_on, control_payload, is_sending_node}
use Rattle.rules.specs.Traffic.{sending_nodes, of_bus_task, run_of, bus_runs, of_sender, traffic, has}
use Rattle.rules.specs.Frames.{Pair, pairs, has_of, of_bits, on_bus, sending_time, gap_time, ControlRow, no_control_row}
use Rattle.rules.specs.Frames.{control_from, control_rows, control_end, is_one, Layout, layout_of}
use Rattle.rules.specs.LatestRelease.{no_pair, time_alone}
use Rattle.rules.specs.Checker.{Named, TableRead, control_at, row_at}
use Rattle.rules.specs.Playing.{period_among, period_in}
use Rattle.rules.specs.Station.{Kept, kept_of, passed_pair, passed_row, home_node, has_message}
use Rattle.rules.specs.Obeys.{pair_at, NamesAll, no_name, one_name, ObeysTable}
use Rattle.rules.proofs.PlanKept.{PlanKept, BusKept, ModeKept, TaskKept}
use Rattle.rules.proofs.LaidOut.{LaidOut, sender, period-kept, pairs-kept, control-kept, control_chain}
use Rattle.rules.proofs.Sent.{RunAmong, run_in, has_means, sent-pair, pair-release}
use Rattle.rules.proofs.Payload.{time-alone}
use Rattle.rules.proofs.PairRows.{rows_apart, row-behind, RidesIn, rides, pair_row}
use Rattle.rules.proofs.TransparentTick.{Messages, message_tests}
use Rattle.rules.proofs.TransparentModes.{FairModule, FairCycle}
use Rattle.rules.proofs.TransparentOwn.{FairTask}
use Rattle.rules.proofs.TransparentBus.{NoOverlap, one_row, before, behind, RunOfPair, FairBus, EveryRunIsSent}
use Rattle.rules.specs.Readers.{is_thinned}
use Rattle.rules.proofs.Editions.{grid-divides, run-divides}
use Rattle.rules.proofs.AllRead.{all_read}

-- ---- what a plan keeps of each task

abbrev pub kept_for : Plan → TableRead → Kept
kept_for p tr = kept_of (record { plan = p; traffic = traffic p; layout = layout_of p; table = tr })

module _ (p : Plan) (kept : PlanKept p) (tr : TableRead) where
  mode_of : (μ : ℕ) → μ < length p.modes → ModeKept p (the_mode p μ)
  unfolding the_mode
  mode_of μ w = all_get_d no_mode kept.modes μ w

  task-of : (t : ℕ) → t < length p.tasks → TaskKept p (the_task p t)
  unfolding the_task
  task-of t w = all_get_d no_task kept.tasks t w

  pub fair_module : (m : ℕ) → m < length p.modules → FairModule (kept_for p tr) m
  unfolding kept_of layout_of
  fair_module m w =
      record {
        place = omega (arith, kept.module_count.most);
        mode_period = λ μ h. (mode_of μ h.there).period.least;
        whole_switches = λ μ h. (mode_of μ h.there).divides;
      }

  pub fair-task : (t : ℕ) → t < length p.tasks → FairTask (kept_for p tr) t
  unfolding kept_of layout_of period_in
  fair-task t w =
      record {
        in_plan = w;
        place = omega (arith, kept.task_count.most);
        home = fair_module (the_task p t).home (task-of t w).home;
        worst = (task-of t w).worst.least;
        in_run = λ μ h pos. worst μ (run_in p μ t pos);
        whole_runs = λ μ h pos. whole μ h.there (run_in p μ t pos);
      }
    where
      worst : (μ : ℕ) → RunAmong p p.invocations μ t → (the_task p t).worst ≤ period_among p p.invocations μ t
      worst μ r =
          let i = all_member kept.invocations r.among in
          rw (← r.period, ← r.task) i.worst

      whole : (μ : ℕ) → μ < length p.modes → RunAmong p p.invocations μ t
          → period_among p p.invocations μ t ∣ (the_mode p μ).period
      whole μ v r =
          let i = all_member kept.invocations r.among in
          rw (← r.period)
          (dvd_trans (period_of p r.one) (subst (λ (x : ℕ). period_of p r.one ∣ (the_mode p x).switch) r.mode i.period_divides)
          (mode_of μ v).divides)

-- ---- every frame takes time

pos_of_mul_pos : (a c : ℕ) → 0 < a * c → 0 < a
pos_of_mul_pos zero c h = rw (zero-mul c) at h
pos_of_mul_pos (suc a) c h = zero-lt-suc a

pub sending_pos : (b : Bus) → BusKept b → (s : ℕ) → 0 < s → 0 < sending_time b s
unfolding sending_time on_bus of_bits
sending_pos b kept s h =
    let bytes = b.overhead + max s b.least in
    let bits = b.byte_bits * bytes in
    let enough : bits * 1000 ≤ ceil (bits * 1000) b.rate * b.rate = ceil-enough (bits * 1000) b.rate kept.rate.least in
    let some_bytes : 0 < bytes = omega (arith, le-max_left s b.least) in
    let fewest : 8 ≤ b.byte_bits = kept.byte_bits.least in
    let some_bits : 0 < bits = mul-pos {m = b.byte_bits} {n = bytes} (omega arith) some_bytes in
    let some-ticks : 0 < ceil (bits * 1000) b.rate = pos_of_mul_pos (ceil (bits * 1000) b.rate) b.rate (omega arith) in
    omega (arith, up-enough b.resolution (ceil (bits * 1000) b.rate) kept.resolution.least)

-- ---- control rows

pub record NodeRow (rows : List ControlRow) (n : ℕ) : Type 0 where
  pub row : ℕ
  pub there : row < length rows
  pub node : (control_at rows row).node ≡ n

abbrev pub Lasts : ControlRow → Type 0
Lasts r = r.start < r.stop

module _ (p : Plan) where
  control-lasts : BusKept p.bus → (start : ℕ) {ns : List ℕ} → All (λ n. 0 < control_payload p n) ns → All Lasts (control_from p start ns)
  unfolding control_from
  control-lasts b start empty = empty
  control-lasts b start (also {x = n} h a) =
      let lasting : start < start + sending_time p.bus (control_payload p n) = omega (arith, sending_pos p.bus b (control_payload p n) h) in
      also lasting (control-lasts b (start + sending_time p.bus (control_payload p n) + gap_time p.bus) a)

  control-of : (start : ℕ) (ns : List ℕ) {n : ℕ} → Memᴰ n ns → NodeRow (control_from p start ns) n
  unfolding control_from control_at
  control-of start (x ∷ ns) (mathlib.Core.List.Memᴰ.head e) = record { row = 0; there = suc-le-suc zero-le; node = sym e }
  control-of start (x ∷ ns) (mathlib.Core.List.Memᴰ.tail m) =
      let r = control-of (start + sending_time p.bus (control_payload p x) + gap_time p.bus) ns m in
      record { row = suc r.row; there = suc-le-suc r.there; node = r.node }
  control-of start mathlib.Core.List.[] {n = n} x' = elim x' [ ]

  senders_some : All (λ n. 0 < control_payload p n) (sending_nodes p)
  unfolding sending_nodes is_sending_node
  senders_some = all_weaker (λ n e. ltb-true 0 (control_payload p n) e) (keep-passes (is_sending_node p) (up_to p.nodes))

  -- a node with a sending module has its control row
  pub node_row : (m : ℕ) → m < length p.modules → module_node p m < p.nodes → is_sending p m ≡ true
      → NodeRow (control_rows p) (module_node p m)
  unfolding control_rows sending_nodes is_sending_node control_payload senders_on stands_on
  node_row m w v sends =
      let n = module_node p m in
      let stands : stands_on p n m ≡ true = both (eq-eqb n n refl) sends in
      let among : Memᴰ m (senders_on p n) = keep_member (stands_on p n) stands (member_tab (λ k. k) 0 (length p.modules) m zero-le (omega arith)) in
      control-of 0 (sending_nodes p)
      (keep_member (is_sending_node p) (lt-ltb 0 (control_payload p n) (member_some among)) (member_tab (λ k. k) 0 p.nodes n zero-le (omega arith)))

-- ---- the rows of a passed table

module _ (p : Plan) (kept : PlanKept p) (tr : TableRead) (obeys : ObeysTable (layout_of p) tr) where
  pub control-same : tr.control ≡ control_rows p
  unfolding layout_of control_at
  control-same = ext_get_or no_control_row tr.control (control_rows p) obeys.header.control_rows obeys.control

  -- a row of one pair takes the sending time of a message
  pair-takes : (f : ℕ) → f < length (layout_of p).pairs → 0 < time_alone (layout_of p) (pair_at (layout_of p) f)
  unfolding pair_at layout_of pairs
  pair-takes f w =
      let among = member_get_or (pairs p) no_pair f w in
      let there = (all_member (pairs-kept p kept) among).task in
      rw (time-alone p kept (pair_at (layout_of p) f) among)
      (sending_pos p.bus kept.bus (the_task p (pair_at (layout_of p) f).task).size
      (task-of p kept tr (pair_at (layout_of p) f).task there).size.least)

  row-takes : {ns : List Named} {fs : List Pair} → NamesAll (layout_of p) ns fs → is_one fs ≡ true → 0 < (layout_of p).time fs
  unfolding time_alone
  row-takes no_name e = true-false (sym e)
  row-takes (one_name {f} h no_name) e = pair-takes f h.there
  row-takes (one_name h (one_name h₁ rest)) e = true-false (sym e)

  pub row-lasts : (r : ℕ) → r < length tr.rows → (row_at tr r).start < (row_at tr r).stop
  unfolding layout_of
  row-lasts r w =
      let n = obeys.names r w in
      omega (arith, (obeys.time r w).stop n.pairs n.names, row-takes n.names n.together)

-- ---- what a passed table keeps of each bus task

module _ (p : Plan) (kept : PlanKept p) {l : Layout} (laid : LaidOut p l) (tr : TableRead) (obeys : ObeysTable (layout_of p) tr) where
  -- P divides both periods of a mode of a sending module
  mode-cycles : (t μ : ℕ) → t < length p.tasks → is_bus_task p t ≡ true → μ < length p.modes → (the_mode p μ).home ≡ (the_task p t).home
      → ((traffic p).period ∣ (the_mode p μ).switch) × ((traffic p).period ∣ (the_mode p μ).period)
  unfolding of_sender
  mode-cycles t μ w bus v own =
      let sends : is_sending p (the_mode p μ).home ≡ true = rw own (sender p kept t w bus) in (
        dvd_trans (traffic p).period laid.divides (grid-divides p μ v sends).1,
        dvd_trans (traffic p).period laid.divides (grid-divides p μ v sends).0,
      )

  pub fair-cycle : (t : ℕ) → t < length p.tasks → is_bus_task p t ≡ true → FairCycle (kept_for p tr) (the_task p t).home
  unfolding kept_of layout_of traffic
  fair-cycle t w bus =
      record {
        cycle = (period-kept p kept laid).least;
        switches = λ μ h. (mode-cycles t μ w bus h.there h.own).0;
        modes = λ μ h. (mode-cycles t μ w bus h.there h.own).1;
      }

  run-cycles : (t μ : ℕ) → is_bus_task p t ≡ true → 0 < period_in p μ t → period_in p μ t ∣ (traffic p).period
  unfolding period_in bus_runs of_bus_task run_of
  run-cycles t μ bus pos =
      let r = run_in p μ t pos in
      let bus-run = keep_member (of_bus_task p) (rw r.task bus) r.among in
      rw (← r.period) (all_member (run-divides p) (member_map (run_of p) bus-run))

  -- ---- the control row of the task's node

  home-in : (t : ℕ) → t < length p.tasks → (the_task p t).home < length p.modules
  home-in t w = (task-of p kept tr t w).home

  home-row : (t : ℕ) → t < length p.tasks → is_bus_task p t ≡ true → NodeRow (control_rows p) (module_node p (the_task p t).home)
  unfolding module_node
  home-row t w bus =
      node_row p (the_task p t).home (home-in t w) (all_get_d 0 kept.modules (the_task p t).home (home-in t w)) (sender p kept t w bus)

  control-row-lasts : (r : ℕ) → r < length tr.control → (control_at tr.control r).start < (control_at tr.control r).stop
  unfolding control_at control_rows
  control-row-lasts r w =
      let rows = control-same p kept tr obeys in
      let v : r < length (control_rows p) = rw rows at w in
      rw rows (all_get_d no_control_row (control-lasts p kept.bus 0 (senders_some p)) r v)

  control-rows-apart : (j r : ℕ) → j < r → r < length tr.control → (control_at tr.control j).stop ≤ (control_at tr.control r).start
  unfolding control_at
  control-rows-apart j r h w =
      let rows = control-same p kept tr obeys in
      let v : r < length (control_rows p) = rw rows at w in
      let apart = chain_pairs {P = λ b. b.start ≤ b.stop} (λ x y z a b c. omega arith) (all_weaker (λ b k. k.start) (control-kept p)) (control_chain p) in
      let far : (control_at (control_rows p) j).stop ≤ (control_at (control_rows p) r).start = omega (arith, pairs-get_or no_control_row apart j r h v) in
      rw rows far

  -- it stops before any data row starts
  control-row-early : (j r : ℕ) → j < length tr.control → r < length tr.rows → (control_at tr.control j).stop ≤ (row_at tr r).start
  unfolding control_at control_end layout_of
  control-row-early j r v w =
      let rows = control-same p kept tr obeys in
      let u : j < length (control_rows p) = rw rows at v in
      let early : (control_at tr.control j).stop ≤ control_end p = rw rows (all_get_d no_control_row (control-kept p) j u).stop in
      let start : control_end p ≤ (row_at tr r).start = rw (← rows) (row-behind (layout_of p) tr obeys r w) in
      omega arith

  -- ---- the row of each pair

  row_of : (q : ℕ) → q < length (layout_of p).pairs → (r : ℕ) × RidesIn (layout_of p) tr q r
  unfolding layout_of
  row_of q w =
      let held = pair_row (layout_of p) tr obeys refl q w in
      rides (layout_of p) tr q held.0 held.1

  pairs-apart : (q r : ℕ) → q < length (layout_of p).pairs → r < length (layout_of p).pairs → NoOverlap (kept_for p tr) q r
  unfolding kept_of passed_row passed_pair pair_at
  pairs-apart q r v w =
      let a = row_of q v in
      let b = row_of r w in
      let apart = rows_apart (layout_of p) tr obeys in
      compare_case a.0 b.0
      (λ h e. before (rw (a.1.is, b.1.is) (apart a.0 b.0 h b.1.holds.there)))
      (λ h e. one_row (rw (a.1.is, b.1.is, h)) (rw (a.1.is, b.1.is, h)))
      (λ h e. behind (rw (a.1.is, b.1.is) (apart b.0 a.0 h a.1.holds.there)))

  pair-lasts : (q : ℕ) → q < length (layout_of p).pairs → (kept_for p tr).pair_start q < (kept_for p tr).pair_stop q
  unfolding kept_of passed_row passed_pair pair_at
  pair-lasts q w = let r = row_of q w in rw r.1.is (row-lasts p kept tr obeys r.0 r.1.holds.there)

  pair-behind : (j q : ℕ) → j < length tr.control → q < length (layout_of p).pairs
      → (control_at tr.control j).stop ≤ (kept_for p tr).pair_start q
  unfolding kept_of passed_row passed_pair pair_at
  pair-behind j q v w = let r = row_of q w in rw r.1.is (control-row-early j r.0 v r.1.holds.there)

  pair_in_time : (q : ℕ) → q < length (layout_of p).pairs → (kept_for p tr).pair_stop q ≤ (kept_for p tr).pair_deadline q
  unfolding kept_of passed_row passed_pair pair_at
  pair_in_time q w =
      let r = row_of q w in
      let h = r.1.holds in
      rw (r.1.is, ← h.names.deadline) (obeys.in_time r.0 h.there h.name h.holds)

  pair-run : (q μ : ℕ) → q < length (layout_of p).pairs → (kept_for p tr).pair_has q μ ≡ true
      → RunOfPair (kept_for p tr) ((kept_for p tr).pair_task q) q μ
  unfolding kept_of passed_row passed_pair pair_at has_of layout_of pairs
  pair-run q μ w e =
      let r = row_of q w in
      let h = r.1.holds in
      let f = pair_at (layout_of p) q in
      let sent = (has_means p kept μ f.task f.deadline).says e in
      let later = pair-release p kept μ f (member_get_or (pairs p) no_pair q w) e in
      let waits : f.release ≤ (row_at tr r.0).start = obeys.released r.0 h.there h.name q h.holds h.names in
      record { invoked = sent.runs; whole = sent.due; released = rw r.1.is (omega arith) }

  pub fair-bus : (t : ℕ) → t < length p.tasks → is_bus_task p t ≡ true → FairBus (kept_for p tr) t
  unfolding kept_of layout_of home_node traffic
  fair-bus t w bus =
      let node = home-row t w bus in
      let rows = control-same p kept tr obeys in
      let there : node.row < length tr.control = subst (λ (c : List ControlRow). node.row < length c) (sym rows) node.there in
      record {
        cycles = fair-cycle t w bus;
        runs = λ μ h pos. run-cycles t μ bus pos;
        sends = sender p kept t w bus;
        control = node.row;
        control_there = there;
        control_node = sym node.node ∙ ap (λ (c : List ControlRow). (control_at c node.row).node) (sym rows);
        control_lasts = control-row-lasts;
        controls_apart = control-rows-apart;
        lasts = λ q h. pair-lasts q h.there;
        apart = λ q r g h. pairs-apart q r g.there h.there;
        behind_control = λ q h. pair-behind node.row q there h.there;
        in_time = λ q h. pair_in_time q h.there;
        of_run = λ q μ h own e. subst (λ (x : ℕ). RunOfPair (kept_for p tr) x q μ) h.task (pair-run q μ h.there e);
      }

-- ---- which messages the station knows of

module _ (p : Plan) (kept : PlanKept p) (tr : TableRead) where
  -- those that the plan sends
  pub sent_is : (t μ d : ℕ) → has_message (kept_for p tr) t μ d ≡ has (traffic p).messages μ t d
  unfolding kept_of passed_pair layout_of pairs
  sent_is t μ d = by_same (message_tests (kept_for p tr) t μ d) (by_itself (has (traffic p).messages μ t d)) has_it in_pair
    where
      has_it : Messages (kept_for p tr) t μ d → has (traffic p).messages μ t d ≡ true
      has_it x = rw (x.known.task, x.time) at x.has

      in_pair : has (traffic p).messages μ t d ≡ true → Messages (kept_for p tr) t μ d
      in_pair e =
          let f = sent-pair p kept μ t d e in
          let q = member_place no_pair f.1 in
          let task : (kept_for p tr).pair_task q.at ≡ t = rw q.is f.2 in
          let due : (kept_for p tr).pair_deadline q.at ≡ d = rw q.is f.3 in
          record { pair = q.at; known = record { there = q.within; task = task }; time = due; has = rw (task, due) e }

  -- every run of a bus task that is not thinned has its message
  pub every_run : (t : ℕ) → is_bus_task p t ≡ true → is_thinned p t ≡ false → EveryRunIsSent (kept_for p tr) t
  unfolding kept_of layout_of
  every_run t bus whole μ d own runs due low high =
      sent_is t μ d
      ∙ (has_means p kept μ t d).passes
      (record { bus = bus; runs = runs; due = due; read = all_read p t whole (period_in p μ t) d runs; low = low; high = high })
