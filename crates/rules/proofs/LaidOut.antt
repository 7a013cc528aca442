-- LaidOut: what refusals 6 to 11 leave of a plan, and how large its numbers can be: P is at most a mode period, the pairs' deadlines
-- and the control rows lie within P, and tasks and nodes are those of the plan.
use mathlib.Core.Path.{◌≡◌, refl, ap}
use mathlib.Core.Bool.{true, Bool, false, cond}
use mathlib.Core.List.{List, [], ◌∷◌, Memᴰ}
use native.Mathlib.Nat.{le_refl, dvd_trans, dvd-sub, dvd-mul_left, le_of_dvd, pos_of_dvd_of_pos, div-mul-le_self, mul-le-mul_right, suc-mul}
use native.Mathlib.Omega.{arith}
use borrow.Author.Tests.{eqb-true, eq-eqb}
use lib.ListN.{length}
use Prim.Native.Nat.{ℕ, zero, suc, ◌+◌, ◌-◌, ◌*◌, ◌/◌, ◌≤◌, ◌<◌, ◌∣◌, zero-le, suc-le-suc}
use Rattle.laws.specs.Res.{ok}
use Rattle.laws.specs.Lists.{keep, any, last_d, up_to}
use Rattle.laws.specs.Numbers.{ceil, up}
use Rattle.laws.proofs.Lists.{both_left, any-up_to-true, length-keep, length-up_to}
use Rattle.laws.proofs.Members.{
  All,
  empty,
  also,
  Chain,
  no_link,
  last_link,
  link,
  all_weaker,
  all_member,
  all_of_members,
  all_get_d,
  all_keep,
  all_map,
  all-tab,
  all-joined,
  all-up_to,
  any_member,
  any-among,
  keep_member,
  member_tab,
}
use Rattle.rules.specs.Limits.{most_frames}
use Rattle.rules.specs.Plan.{Plan, no_mode, the_mode, the_task}
use Rattle.rules.specs.Traffic.{Run, run_of, of_bus_task, bus_runs, invokes, is_bus_task, bus_tasks, lives_in, is_sending, is_sending_node, sending_nodes, of_sender, bus_period, message, messages_of, messages, traffic, control_payload, thinned, thinned_period, kept_messages, is_kept, basic, Message, Traffic}
use Rattle.rules.specs.Frames.{Pair, pair_of, pairs, sending_time, of_bits, gap_on_bus, gap_time, cycle_end, ControlRow, no_control_row, control_from, control_rows, control_end, some_bus_task, payloads_fit, Layout, layout_of, layout}
use Rattle.rules.proofs.PairsOf.{plan-pairs}
use Rattle.rules.proofs.PlanExact.{some_means, payloads_mean, layout_exact}
use Rattle.rules.proofs.PlanKept.{Between, PlanKept}
use Rattle.rules.proofs.Editions.{grid-divides}

-- refusals 6 to 11 passed
pub record LaidOut (p : Plan) (l : Layout) : Type 0 where
  pub some_bus : some_bus_task p ≡ true
  pub divides : (traffic p).period ∣ (traffic p).grid
  pub on_grid : p.bus.resolution ∣ (traffic p).period
  pub few : length (pairs p) ≤ most_frames
  pub payloads : payloads_fit p ≡ true
  pub room : control_end p ≤ (traffic p).period
  pub is : layout_of p ≡ l

pub laid_out : (p : Plan) (l : Layout) → layout p ≡ ok l → LaidOut p l
laid_out p l e =
    let h = (layout_exact p l).0 e in
    let k = h.0 in
    let one : 0 < 1 = suc-le-suc zero-le in
    record {
      some_bus = (some_means p).passes (k.0.each 0 one);
      divides = k.1.0.each 0 one;
      on_grid = k.1.1.0.each 0 one;
      few = k.1.1.1.0.each 0 one;
      payloads = (payloads_mean p).passes (k.1.1.1.1.0.each 0 one);
      room = k.1.1.1.1.1.0.each 0 one;
      is = h.1;
    }

-- ---- P is at most a mode period

-- a bus task has an invocation, whose mode is of a sending module
pub record SendingMode (p : Plan) : Type 0 where
  pub mode : ℕ
  pub within : mode < length p.modes
  pub sending : of_sender p (the_mode p mode) ≡ true

module _ (p : Plan) (k : PlanKept p) where
  pub sender : (t : ℕ) → t < length p.tasks → is_bus_task p t ≡ true → is_sending p (the_task p t).home ≡ true
  unfolding is_sending bus_tasks lives_in
  sender t w b =
      any-among (lives_in p (the_task p t).home)
      (keep_member (is_bus_task p) b (member_tab (λ k. k) 0 (length p.tasks) t (omega arith) (omega arith)))
      (eq-eqb (the_task p t).home (the_task p t).home refl)

  mode_of : (t : ℕ) → t < length p.tasks → is_bus_task p t ≡ true → SendingMode p
  unfolding is_bus_task invokes of_sender
  mode_of t w b =
      let f = any_member (invokes t) p.invocations (both_left (any (invokes t) p.invocations) _ b) in
      let i = all_member k.invocations f.among in
      let t-is : f.one.task ≡ t = eqb-true f.one.task t f.passes in
      let home : (the_task p t).home ≡ (the_mode p f.one.mode).home = rw t-is at i.home in
      record { mode = f.one.mode; within = i.mode; sending = rw (← home) (sender t w b) }

  pub sending-mode : some_bus_task p ≡ true → SendingMode p
  unfolding some_bus_task
  sending-mode e = let f = any-up_to-true (is_bus_task p) (length p.tasks) e in mode_of f.0 f.1 f.2

  pub period-divides-mode : (traffic p).period ∣ (traffic p).grid → (m : SendingMode p) → (traffic p).period ∣ (the_mode p m.mode).period
  period-divides-mode d m = dvd_trans (traffic p).period d (grid-divides p m.mode m.within m.sending).0

  pub period-kept : {l : Layout} → LaidOut p l → Between 1 1000000 (traffic p).period
  unfolding the_mode
  period-kept h =
      let m = sending-mode h.some_bus in
      let μ = all_get_d no_mode k.modes m.mode m.within in
      let d = period-divides-mode h.divides m in
      record { least = pos_of_dvd_of_pos d μ.period.least; most = omega (arith, le_of_dvd μ.period.least d, μ.period.most) }

-- ---- pairs

-- in either edition what is sent are messages of runs of bus tasks
abbrev sent_in : Plan → Bool → Traffic
sent_in p consumers = cond consumers (thinned p) (basic p)

module _ (p : Plan) {Q : Message → Type 0} where
  by_edition : (consumers : Bool) → ((r : Run) → Memᴰ r (bus_runs p) → All Q (messages_of (sent_in p consumers).period r))
      → All Q (sent_in p consumers).messages
  unfolding thinned kept_messages basic messages
  by_edition true h =
      all-joined (all_map (kept_messages p (thinned_period p)) (all_of_members (bus_runs p) (λ r m. all_keep (is_kept p (thinned_period p) r) (h r m))))
  by_edition false h = all-joined (all_map (messages_of (bus_period p)) (all_of_members (bus_runs p) h))

  pub all-sent : ((r : Run) → Memᴰ r (bus_runs p) → All Q (messages_of (traffic p).period r)) → All Q (traffic p).messages
  unfolding traffic
  all-sent = by_edition p.consumers

-- a pair's task is one of the plan, and its deadline lies within P
pub record PairKept (p : Plan) (f : Pair) : Type 0 where
  pub task : f.task < length p.tasks
  pub deadline : f.deadline ≤ (traffic p).period

module _ (p : Plan) (k : PlanKept p) where
  message-kept : (r : Run) → r.task < length p.tasks → (i : ℕ) → i ≤ (traffic p).period / r.period → PairKept p (pair_of (message r i))
  unfolding message pair_of
  message-kept r t i h =
      let within : i * r.period ≤ (traffic p).period / r.period * r.period = mul-le-mul_right r.period h in
      record { task = t; deadline = omega (arith, within, div-mul-le_self (traffic p).period r.period) }

  messages_of-kept : (r : Run) → r.task < length p.tasks → All (λ m. PairKept p (pair_of m)) (messages_of (traffic p).period r)
  unfolding messages_of
  messages_of-kept r t = all-tab (message r) 1 ((traffic p).period / r.period) (λ i a b. message-kept r t i (omega arith))

  runs-kept : All (λ r. r.task < length p.tasks) (bus_runs p)
  unfolding bus_runs run_of
  runs-kept = all_map (run_of p) (all_weaker (λ i h. h.task) (all_keep (of_bus_task p) k.invocations))

  messages-kept : All (λ m. PairKept p (pair_of m)) (traffic p).messages
  messages-kept = all-sent p (λ r m. messages_of-kept r (all_member runs-kept m))

  pub pairs-kept : All (PairKept p) (pairs p)
  pairs-kept = all_of_members (pairs p) (λ f m. all_member {P = PairKept p} (all_map pair_of messages-kept) ((plan-pairs p).comes f m))

-- a pair is released by its deadline, since a task needs no longer than its period
released-first : (r : Run) → r.worst ≤ r.period → (i : ℕ) → 1 ≤ i → (message r i).release ≤ (message r i).deadline
unfolding message
released-first r w zero h = absurd (omega arith)
released-first r w (suc j) h =
    let less : suc j - 1 ≡ j = omega arith in
    rw (less, suc-mul j r.period) (omega arith)

module _ (p : Plan) (k : PlanKept p) where
  runs-short : All (λ r. r.worst ≤ r.period) (bus_runs p)
  unfolding bus_runs run_of
  runs-short = all_map (run_of p) (all_weaker (λ i h. h.worst) (all_keep (of_bus_task p) k.invocations))

  messages-released : All (λ m. (pair_of m).release ≤ (pair_of m).deadline) (traffic p).messages
  unfolding messages_of pair_of
  messages-released =
      all-sent p (λ r m. all-tab (message r) 1 ((traffic p).period / r.period) (λ i a b. released-first r (all_member runs-short m) i a))

  pub pairs-released : All (λ f. f.release ≤ f.deadline) (pairs p)
  pairs-released =
      all_of_members (pairs p)
      (λ f m. all_member {P = λ f. f.release ≤ f.deadline} (all_map pair_of messages-released) ((plan-pairs p).comes f m))

-- ---- control rows

pub record ControlKept (p : Plan) (end : ℕ) (r : ControlRow) : Type 0 where
  pub node : r.node < p.nodes
  pub start : r.start ≤ r.stop
  pub stop : r.stop ≤ end

module _ (p : Plan) where
  last-later : (start : ℕ) (ns : List ℕ) (r : ControlRow) → r.stop ≤ start → r.stop ≤ (last_d (control_from p start ns) r).stop
  unfolding control_from
  last-later start [] r h = omega arith
  last-later start (n ∷ ns) r h =
      let stop = start + sending_time p.bus (control_payload p n) in
      let later = last-later (stop + gap_time p.bus) ns (record { node = n; start = start; stop = stop }) (omega arith) in
      omega (arith, later)

  control-from : (start : ℕ) {ns : List ℕ} (r : ControlRow) → All (λ n. n < p.nodes) ns
      → All (ControlKept p (last_d (control_from p start ns) r).stop) (control_from p start ns)
  unfolding control_from
  control-from start r empty = empty
  control-from start r (also {x = n} {l = ns} h a) =
      let stop = start + sending_time p.bus (control_payload p n) in
      let row : ControlRow = record { node = n; start = start; stop = stop } in
      also
      {x = row}
      (record { node = h; start = omega arith; stop = last-later (stop + gap_time p.bus) ns row (omega arith) })
      (control-from (stop + gap_time p.bus) row a)

  -- each starts a gap behind the stop of the one before it
  chain_from : (start : ℕ) (ns : List ℕ) → Chain (λ a b. a.stop + gap_time p.bus ≤ b.start) (control_from p start ns)
  unfolding control_from
  chain_from start [] = no_link
  chain_from start (n ∷ []) = last_link
  chain_from start (n ∷ m ∷ ns) =
      let next = start + sending_time p.bus (control_payload p n) + gap_time p.bus in
      link {y = record { node = m; start = next; stop = next + sending_time p.bus (control_payload p m) }} (le_refl next)
      (chain_from next (m ∷ ns))

  pub control_chain : Chain (λ a b. a.stop + gap_time p.bus ≤ b.start) (control_rows p)
  unfolding control_rows
  control_chain = chain_from 0 (sending_nodes p)

  nodes-there : All (λ n. n < p.nodes) (sending_nodes p)
  unfolding sending_nodes
  nodes-there = all_keep (is_sending_node p) (all-up_to p.nodes)

  pub control-kept : All (ControlKept p (control_end p)) (control_rows p)
  unfolding control_rows control_end
  control-kept =
      all_weaker
      (λ r h. record { node = h.node; start = h.start; stop = omega (arith, h.stop) })
      (control-from 0 no_control_row nodes-there)

  length-control : (start : ℕ) (ns : List ℕ) → length (control_from p start ns) ≡ length ns
  unfolding control_from
  length-control start [] = refl
  length-control start (n ∷ ns) = ap suc (length-control (start + sending_time p.bus (control_payload p n) + gap_time p.bus) ns)

  pub control-count : length (control_rows p) ≤ p.nodes
  unfolding control_rows sending_nodes
  control-count =
      rw (length-control 0 (keep (is_sending_node p) (up_to p.nodes)))
      (omega (arith, length-keep (is_sending_node p) (up_to p.nodes), length-up_to p.nodes))

  -- C is at least a gap
  pub gap_within : gap_time p.bus ≤ control_end p
  unfolding control_end
  gap_within = omega arith

-- ---- the end of a cycle

module _ (p : Plan) {l : Layout} (h : LaidOut p l) where
  -- nothing is cut off: the gap fits into P
  pub end_whole : cycle_end p.bus (traffic p).period + gap_time p.bus ≡ (traffic p).period
  unfolding cycle_end
  end_whole = omega (arith, gap_within p, h.room)

  pub end_on_grid : p.bus.resolution ∣ cycle_end p.bus (traffic p).period
  unfolding cycle_end gap_time gap_on_bus of_bits up
  end_on_grid =
      let ticks = ceil (p.bus.gap * 1000) p.bus.rate in
      dvd-sub p.bus.resolution h.on_grid (dvd-mul_left p.bus.resolution (ceil ticks p.bus.resolution))
