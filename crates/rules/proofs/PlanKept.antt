-- PlanKept: what refusals 1 to 5 leave of a plan that is read: each count, name and range of docs/RULES.md, section 3, by name, and what
-- rules 6.5.1 to 6.5.9 ask.
use mathlib.Core.Path.{◌≡◌, refl, sym, subst}
use mathlib.Core.Bool.{true}
use mathlib.Core.Logic.{inl, inr}
use mathlib.Core.List.{List, [], ◌∷◌}
use native.Mathlib.Omega.{arith}
use borrow.Author.Tests.{eqb-true}
use lib.Dec.{lit<, lit≤}
use lib.ListN.{length, get_or, length-map}
use Prim.Native.Nat.{ℕ, ◌+◌, ◌≤◌, ◌<◌, ◌∣◌, zero-le, suc-le-suc}
use Rattle.laws.specs.Res.{ok}
use Rattle.laws.specs.Lists.{keep}
use Rattle.laws.proofs.Lists.{true-false}
use Rattle.laws.proofs.Tests.{by_or, by_eq}
use Rattle.laws.proofs.Members.{All, all_weaker, all_both, all_keep, all_of_places, all_get_d, keep-passes, all_map}
use Rattle.rules.specs.Records.{Field, ranges, free, fields, kinds, bus_then, is_bus, Rec, record_of, plan_follows}
use Rattle.rules.specs.Obeys.{AreRecords, the_end, one_more}
use Rattle.rules.specs.Plan.{
  Bus,
  Mode,
  Task,
  Invocation,
  Connection,
  Plan,
  nth,
  bus_of,
  mode_of,
  task_of,
  invocation_of,
  connection_of,
  module_of,
  is_bus_record,
  zero_record,
  the_bus,
  least_counts,
  most_counts,
  no_mode,
  no_invocation,
  the_mode,
  the_task,
  the_invocation,
  period_of,
  is_kind,
  numbers_of,
  things,
  plan_of,
  count,
  read_plan,
}
use Rattle.rules.specs.ObeysPlan.{CountFits, field_at, NamesThere, NumbersWithin, SwitchDivides, InvocationFits, ConnectionFits, IsBus, record_at, ReadsAs}
use Rattle.rules.proofs.PlanExact.{read_exact}

-- ---- what a plan that is read keeps

pub record Between (low high x : ℕ) : Type 0 where
  pub least : low ≤ x
  pub most : x ≤ high

pub record BusKept (b : Bus) : Type 0 where
  pub rate : Between 1 100000 b.rate
  pub overhead : Between 0 64 b.overhead
  pub least : Between 0 254 b.least
  pub most : Between 1 254 b.most
  pub ordered : b.least ≤ b.most
  pub gap : Between 0 1000 b.gap
  pub resolution : Between 1 1000 b.resolution
  pub byte_bits : Between 8 12 b.byte_bits

pub record ModeKept (p : Plan) (μ : Mode) : Type 0 where
  pub home : μ.home < length p.modules
  pub period : Between 1 1000000 μ.period
  pub switch : Between 1 1000000 μ.switch
  pub divides : μ.switch ∣ μ.period

pub record TaskKept (p : Plan) (t : Task) : Type 0 where
  pub home : t.home < length p.modules
  pub size : Between 1 8 t.size
  pub worst : Between 1 1000000 t.worst

pub record InvocationKept (p : Plan) (i : Invocation) : Type 0 where
  pub mode : i.mode < length p.modes
  pub task : i.task < length p.tasks
  pub rate : Between 1 65535 i.rate
  pub rate_divides : i.rate ∣ (the_mode p i.mode).period
  pub period_divides : period_of p i ∣ (the_mode p i.mode).switch
  pub worst : (the_task p i.task).worst ≤ period_of p i
  pub home : (the_task p i.task).home ≡ (the_mode p i.mode).home

pub record ConnectionKept (p : Plan) (c : Connection) : Type 0 where
  pub producer : c.producer < length p.tasks
  pub consumer : c.consumer < length p.tasks

pub record PlanKept (p : Plan) : Type 0 where
  pub node_count : Between 1 8 p.nodes
  pub module_count : Between 1 16 (length p.modules)
  pub mode_count : Between 1 32 (length p.modes)
  pub task_count : Between 1 32 (length p.tasks)
  pub invocation_count : Between 1 64 (length p.invocations)
  pub connection_count : Between 0 64 (length p.connections)
  pub bus : BusKept p.bus
  pub modules : All (λ n. n < p.nodes) p.modules
  pub modes : All (ModeKept p) p.modes
  pub tasks : All (TaskKept p) p.tasks
  pub invocations : All (InvocationKept p) p.invocations
  pub connections : All (ConnectionKept p) p.connections
  pub has_mode : (m : ℕ) → m < length p.modules → (k : ℕ) × (k < length p.modes) × ((the_mode p k).home ≡ m)
  pub once : (j k : ℕ) → j < k → k < length p.invocations → (the_invocation p j).mode ≡ (the_invocation p k).mode
      → (the_invocation p j).task ≡ (the_invocation p k).task → ⊥
  pub doubtless : (k : ℕ) → k < length p.connections → ConnectionFits p k

-- ---- bodies by kind

-- a body of a kind keeps 3 and 4
pub record BodyKept (rs : List Rec) (kind : ℕ) (b : List ℕ) : Type 0 where
  pub there : NamesThere rs (record { kind = kind; numbers = b })
  pub within : NumbersWithin (record { kind = kind; numbers = b })

body_kept : (rs : List Rec) (kind : ℕ) (r : Rec) → is_kind kind r ≡ true → NamesThere rs r → NumbersWithin r → BodyKept rs kind (numbers_of r)
unfolding is_kind
body_kept rs kind r e n w =
    subst (λ (k : ℕ). BodyKept rs k r.numbers) (eqb-true r.kind kind e) (record { there = n; within = w })

module _ {file : List ℕ} {p : Plan} (h : ReadsAs file p) where
  records-kept : All (λ r. NamesThere h.rows r × NumbersWithin r) h.rows
  unfolding record_at
  records-kept = all_of_places h.rows zero_record (λ k w. (h.kept.1.0.each k w, h.kept.1.1.0.each k w))

  pub bodies : (kind : ℕ) → All (BodyKept h.rows kind) (things kind h.rows)
  unfolding things
  bodies kind =
      all_map numbers_of
      (all_weaker (λ r a. body_kept h.rows kind r a.0 a.1.0 a.1.1)
      (all_both (keep-passes (is_kind kind) h.rows) (all_keep (is_kind kind) records-kept)))

-- ---- the counts, the bus, the things

module _ (rs : List Rec) (counts : (k : ℕ) → k < 6 → CountFits rs k) where
  count_kept : (k : ℕ) → k < 6 → Between (nth least_counts k) (nth most_counts k) (count rs (2 + k))
  count_kept k w = record { least = (counts k w).enough; most = (counts k w).few }

  -- as many as the plan has
  modules_counted : count rs 3 ≡ length (plan_of rs).modules
  unfolding count plan_of
  modules_counted = sym (length-map (things 3 rs) module_of)

  modes_counted : count rs 4 ≡ length (plan_of rs).modes
  unfolding count plan_of
  modes_counted = sym (length-map (things 4 rs) mode_of)

  tasks_counted : count rs 5 ≡ length (plan_of rs).tasks
  unfolding count plan_of
  tasks_counted = sym (length-map (things 5 rs) task_of)

  invocations_counted : count rs 6 ≡ length (plan_of rs).invocations
  unfolding count plan_of
  invocations_counted = sym (length-map (things 6 rs) invocation_of)

  connections-counted : count rs 7 ≡ length (plan_of rs).connections
  unfolding count plan_of
  connections-counted = sym (length-map (things 7 rs) connection_of)

  nodes-kept : Between 1 8 (plan_of rs).nodes
  unfolding least_counts most_counts count plan_of
  nodes-kept = count_kept 0 (lit< tt)

  module-count : Between 1 16 (length (plan_of rs).modules)
  unfolding least_counts most_counts
  module-count = rw (← modules_counted) (count_kept 1 (lit< tt))

  mode-count : Between 1 32 (length (plan_of rs).modes)
  unfolding least_counts most_counts
  mode-count = rw (← modes_counted) (count_kept 2 (lit< tt))

  task-count : Between 1 32 (length (plan_of rs).tasks)
  unfolding least_counts most_counts
  task-count = rw (← tasks_counted) (count_kept 3 (lit< tt))

  invocation-count : Between 1 64 (length (plan_of rs).invocations)
  unfolding least_counts most_counts
  invocation-count = rw (← invocations_counted) (count_kept 4 (lit< tt))

  connection-count : Between 0 64 (length (plan_of rs).connections)
  unfolding least_counts most_counts
  connection-count = rw (← connections-counted) (count_kept 5 (lit< tt))

-- a body's numbers, by kind
module _ (rs : List Rec) (kind : ℕ) (b : List ℕ) (h : BodyKept rs kind b) where
  range : (k wide low high : ℕ) → k < length (fields kind) → field_at kind k ≡ ranges wide low high → Between low high (nth b k)
  range k wide low high w e = record { least = h.within.least k wide low high w e; most = h.within.most k wide low high w e }

-- the numbers that both kinds of bus have
module _ (rs : List Rec) (kind : ℕ) (b : List ℕ) (h : BodyKept rs kind b) (more : List Field) (e : fields kind ≡ bus_then more) where
  one_of_six : (k wide low high : ℕ) → k < 6 → get_or (bus_then more) k (free 0) ≡ ranges wide low high → Between low high (nth b k)
  unfolding field_at
  one_of_six k wide low high w q = range rs kind b h k wide low high (rw e (omega arith)) (rw e q)

  bus-kept : IsBus kind → Between 8 12 (bus_of (record { kind = kind; numbers = b })).byte_bits
      → BusKept (bus_of (record { kind = kind; numbers = b }))
  unfolding bus_of
  bus-kept is_bus bits =
      record {
        rate = one_of_six 0 4 1 100000 (lit< tt) refl;
        overhead = one_of_six 1 2 0 64 (lit< tt) refl;
        least = one_of_six 2 2 0 254 (lit< tt) refl;
        most = one_of_six 3 2 1 254 (lit< tt) refl;
        ordered = h.within.payloads is_bus;
        gap = one_of_six 4 2 0 1000 (lit< tt) refl;
        resolution = one_of_six 5 4 1 1000 (lit< tt) refl;
        byte_bits = bits;
      }

module _ (rs : List Rec) (b : List ℕ) where
  plain-kept : BodyKept rs 1 b → BusKept (bus_of (record { kind = 1; numbers = b }))
  unfolding fields kinds bus_of is_kind
  plain-kept h = bus-kept rs 1 b h [] refl (inl refl) (record { least = lit≤ tt; most = lit≤ tt })

  framed_kept : BodyKept rs 9 b → BusKept (bus_of (record { kind = 9; numbers = b }))
  unfolding fields kinds field_at bus_of is_kind
  framed_kept h = bus-kept rs 9 b h (ranges 1 8 12 ∷ []) refl (inr refl) (range rs 9 b h 6 1 8 12 (lit< tt) refl)

  module_kept : BodyKept rs 3 b → module_of b < count rs 2
  unfolding fields kinds field_at module_of
  module_kept h = h.there 0 2 (lit< tt) refl

  mode-home : BodyKept rs 4 b → (mode_of b).home < count rs 3
  unfolding fields kinds field_at mode_of
  mode-home h = h.there 0 3 (lit< tt) refl

  mode-period : BodyKept rs 4 b → Between 1 1000000 (mode_of b).period
  unfolding fields kinds field_at mode_of
  mode-period h = range rs 4 b h 1 4 1 1000000 (lit< tt) refl

  mode-switch : BodyKept rs 4 b → Between 1 1000000 (mode_of b).switch
  unfolding fields kinds field_at mode_of
  mode-switch h = range rs 4 b h 2 4 1 1000000 (lit< tt) refl

  task-home : BodyKept rs 5 b → (task_of b).home < count rs 3
  unfolding fields kinds field_at task_of
  task-home h = h.there 0 3 (lit< tt) refl

  task-size : BodyKept rs 5 b → Between 1 8 (task_of b).size
  unfolding fields kinds field_at task_of
  task-size h = range rs 5 b h 1 1 1 8 (lit< tt) refl

  task-worst : BodyKept rs 5 b → Between 1 1000000 (task_of b).worst
  unfolding fields kinds field_at task_of
  task-worst h = range rs 5 b h 2 4 1 1000000 (lit< tt) refl

  invocation-mode : BodyKept rs 6 b → (invocation_of b).mode < count rs 4
  unfolding fields kinds field_at invocation_of
  invocation-mode h = h.there 0 4 (lit< tt) refl

  invocation-task : BodyKept rs 6 b → (invocation_of b).task < count rs 5
  unfolding fields kinds field_at invocation_of
  invocation-task h = h.there 1 5 (lit< tt) refl

  invocation-rate : BodyKept rs 6 b → Between 1 65535 (invocation_of b).rate
  unfolding fields kinds field_at invocation_of
  invocation-rate h = range rs 6 b h 2 2 1 65535 (lit< tt) refl

  connection-producer : BodyKept rs 7 b → (connection_of b).producer < count rs 5
  unfolding fields kinds field_at connection_of
  connection-producer h = h.there 0 5 (lit< tt) refl

  connection-consumer : BodyKept rs 7 b → (connection_of b).consumer < count rs 5
  unfolding fields kinds field_at connection_of
  connection-consumer h = h.there 1 5 (lit< tt) refl

-- ---- the bus stands first

bus-first : {file : List ℕ} {rs : List Rec} → AreRecords plan_follows 0 file rs → 0 < length (keep is_bus_record rs)
unfolding is_bus_record record_of plan_follows is_bus
bus-first (the_end s e) = true-false (sym s.is_next)
bus-first (one_more {kind = kind} body s z b e r) = rw s.is_next (suc-le-suc zero-le)

-- a bus of either kind keeps its ranges
module _ (rs : List Rec) (r : Rec) (kept : BodyKept rs r.kind r.numbers) where
  abbrev Keeps : ℕ → Type 0
  Keeps kind = BodyKept rs kind r.numbers

  abbrev Leaves : ℕ → Type 0
  Leaves kind = BusKept (bus_of (record { kind = kind; numbers = r.numbers }))

  by_kind : IsBus r.kind → BusKept (bus_of r)
  by_kind (inl one) = subst Leaves (sym one) (plain-kept rs r.numbers (subst Keeps one kept))
  by_kind (inr nine) = subst Leaves (sym nine) (framed_kept rs r.numbers (subst Keeps nine kept))

  either-kept : is_bus_record r ≡ true → BusKept (bus_of r)
  unfolding is_bus_record is_bus
  either-kept e = by_kind ((by_or (by_eq r.kind 1) (by_eq r.kind 9)).says e)

-- ---- all together

module _ (file : List ℕ) (p : Plan) (h : ReadsAs file p) where
  abbrev rows : List Rec
  rows = h.rows

  abbrev read : Plan
  read = plan_of rows

  counts : (k : ℕ) → k < 6 → CountFits rows k
  counts = h.kept.0.each

  switches : (μ : ℕ) → μ < length read.modes → SwitchDivides read μ
  switches = h.kept.1.1.1.1.0.each

  fits : (k : ℕ) → k < length read.invocations → InvocationFits read k
  fits = h.kept.1.1.1.1.1.0.each

  modules-kept : All (λ n. n < read.nodes) read.modules
  unfolding plan_of count
  modules-kept = all_map module_of (all_weaker (λ b k. module_kept rows b k) (bodies h 3))

  modes-kept : All (ModeKept read) read.modes
  unfolding plan_of the_mode
  modes-kept =
      all_weaker
      (λ μ f. record { home = rw (← modules_counted rows counts) f.0.0; period = f.0.1; switch = f.0.2; divides = f.1 })
      (all_both
      (all_map {P = λ μ. (μ.home < count rows 3) × Between 1 1000000 μ.period × Between 1 1000000 μ.switch} mode_of
      (all_weaker (λ b k. (mode-home rows b k, mode-period rows b k, mode-switch rows b k)) (bodies h 4)))
      (all_of_places {P = λ μ. μ.switch ∣ μ.period} read.modes no_mode switches))

  tasks-kept : All (TaskKept read) read.tasks
  unfolding plan_of
  tasks-kept =
      all_map task_of
      (all_weaker
      (λ b k. record {
        home = rw (← modules_counted rows counts) (task-home rows b k);
        size = task-size rows b k;
        worst = task-worst rows b k;
      })
      (bodies h 5))

  -- what 5 asks of an invocation alone
  abbrev Fitting : Invocation → Type 0
  Fitting i =
      (i.rate ∣ (the_mode read i.mode).period) × (period_of read i ∣ (the_mode read i.mode).switch)
      × ((the_task read i.task).worst ≤ period_of read i) × ((the_task read i.task).home ≡ (the_mode read i.mode).home)

  fitting : All Fitting read.invocations
  unfolding the_invocation
  fitting =
      all_of_places {P = Fitting} read.invocations no_invocation
      (λ k w. let f = fits k w in (f.rate, f.period, f.worst, f.home))

  invocations-kept : All (InvocationKept read) read.invocations
  unfolding plan_of
  invocations-kept =
      all_weaker
      (λ i f. record {
        mode = rw (← modes_counted rows counts) f.0.0;
        task = rw (← tasks_counted rows counts) f.0.1;
        rate = f.0.2;
        rate_divides = f.1.0;
        period_divides = f.1.1;
        worst = f.1.2;
        home = f.1.3;
      })
      (all_both
      (all_map {P = λ i. (i.mode < count rows 4) × (i.task < count rows 5) × Between 1 65535 i.rate} invocation_of
      (all_weaker (λ b k. (invocation-mode rows b k, invocation-task rows b k, invocation-rate rows b k)) (bodies h 6)))
      fitting)

  connections-kept : All (ConnectionKept read) read.connections
  unfolding plan_of
  connections-kept =
      all_map connection_of
      (all_weaker
      (λ b k. record {
        producer = rw (← tasks_counted rows counts) (connection-producer rows b k);
        consumer = rw (← tasks_counted rows counts) (connection-consumer rows b k);
      })
      (bodies h 7))

  bus-is-kept : BusKept read.bus
  unfolding plan_of the_bus
  bus-is-kept =
      let found = all_get_d zero_record (all_both (keep-passes is_bus_record rows) (all_keep is_bus_record (records-kept h))) 0 (bus-first h.are_rows) in
      either-kept rows (the_bus rows) (record { there = found.1.0; within = found.1.1 }) found.0

  pub plan-kept : PlanKept p
  plan-kept =
      subst PlanKept h.is
      (record {
        node_count = nodes-kept rows counts;
        module_count = module-count rows counts;
        mode_count = mode-count rows counts;
        task_count = task-count rows counts;
        invocation_count = invocation-count rows counts;
        connection_count = connection-count rows counts;
        bus = bus-is-kept;
        modules = modules-kept;
        modes = modes-kept;
        tasks = tasks-kept;
        invocations = invocations-kept;
        connections = connections-kept;
        has_mode = λ m w. let f = h.kept.1.1.1.0.each m w in (f.mode, f.there, f.own);
        once = λ j k v w. (fits k w).once j v;
        doubtless = h.kept.1.1.1.1.1.1.0.each;
      })

-- a plan that passes 1 to 5 keeps every count, name, range and sentence of them
pub readable_kept : (file : List ℕ) (p : Plan) → read_plan file ≡ ok p → PlanKept p
readable_kept file p e = plan-kept file p ((read_exact file p).0 e)
