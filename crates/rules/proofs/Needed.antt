-- Needed: the messages that are kept (rule 21.7), by the periods with which a task's results are read (rule 21.8). A read at x needs x rounded
-- down to T; so some read with period U needs the deadline d exactly if a multiple of U lies in d to d + T - 1. The first read of a cycle
-- needs the message with deadline P, and P is a multiple of every U.
use mathlib.Core.Path.{◌≡◌, refl, sym, ap, ◌∙◌}
use mathlib.Core.Bool.{Bool, true, false, cond, not, ◌&&◌}
use mathlib.Core.List.{List, [], ◌∷◌, map, Memᴰ}
use mathlib.Core.Logic.{◌⊎◌, inl, inr}
use native.Mathlib.Nat.{suc-mul, le_antisymm, le_trans, div-mul-le_self, dvd-mul_left, one-dvd, le-div_iff_mul-le, zero-mul, mul-pos, eq-zero-or-pos}
use native.Mathlib.Omega.{arith}
use borrow.Author.Tests.{eqb-true, eq-eqb, ne_eqb, not-true, not-false, leb-true, le-leb, lt-ltb}
use lib.Dec.{eqb, lit<, lit≤}
use lib.ListN.{length, get_or, length-map}
use Prim.Native.Nat.{ℕ, suc, ◌+◌, ◌*◌, ◌/◌, ◌≤◌, ◌<◌, ◌∣◌, zero-le}
use Rattle.laws.specs.Lists.{keep, any, joined, up_to}
use Rattle.laws.specs.Numbers.{ceil, up, down, greatest}
use Rattle.laws.proofs.Lists.{length-keep, both, both_left, both_right, tested}
use Rattle.laws.proofs.Tests.{by_itself, by_same, by_or, by_lt}
use Rattle.laws.proofs.Divisors.{up-enough, down-multiple, down-below, down-greatest}
use Rattle.laws.proofs.Readers.{up_least, down_tight, apart, not_behind}
use Rattle.laws.proofs.Orders.{le-or-lt}
use Rattle.laws.proofs.Places.{member_some}
use Rattle.laws.proofs.Sums.{greatest-least, greatest-above}
use Rattle.laws.proofs.Members.{All, empty, also, all_weaker, all_both, all_keep, all_map, all-tab, all-up_to, all_member, all_get_d, all_of_members, member_map, member_get_or, member_tab, source, keep_member, keep-from, keep-passes, keep_all, keep_same, map_same, any_member, any-among, none_passes}
use Rattle.rules.specs.Plan.{Invocation, Connection, Plan, no_task, the_task, period_of}
use Rattle.rules.specs.Traffic.{Run, run_of, invokes, is_bus_task, of_bus_task, bus_runs, message, messages_of, messages, basic, can_be_thinned, is_left, is_invoked, leaves, task_node, thins_for, is_counted, counted_runs, read_at, reads_with, deadline_of_message, is_by, latest_by, needed_at, is_needed_at, is_read_in, needs, is_kept, kept_messages, thinned, traffic}
use Rattle.rules.specs.Readers.{is_read, is_read_by, needs_all, leads_to, is_reader, is_thinned, readers_of, is_read_message, read_messages_of, read_messages}
use Rattle.rules.proofs.PlanKept.{PlanKept}
use Rattle.rules.proofs.ReadersGo.{ReadersGo, InEdition}
use Rattle.rules.proofs.AllRead.{basic-whole, all_read}
use Rattle.rules.proofs.Editions.{thinned-is, basic-is, counted-divides, run-divides}

-- ---- one run and one period with which it is read

module _ (P : ℕ) (r : Run) (pos : 0 < r.period) (cycles : r.period ∣ P) where
  abbrev T : ℕ
  T = r.period

  abbrev deadlines : List ℕ
  deadlines = map deadline_of_message (messages_of P r)

  deadlines_divide : All (λ d. T ∣ d) deadlines
  unfolding messages_of message
  deadlines_divide = all_map deadline_of_message (all-tab (message r) 1 (P / T) (λ k a b. dvd-mul_left T k))

  deadline-among : (x : ℕ) → x ≤ P → 0 < x / T → Memᴰ (down T x) deadlines
  unfolding messages_of message down
  deadline-among x h low =
      let last : x / T ≤ P / T = (le-div_iff_mul-le pos).1 (le_trans (div-mul-le_self x T) h) in
      member_map deadline_of_message (member_tab (message r) 1 (P / T) (x / T) low (omega arith))

  -- the latest deadline not after x is x rounded down
  latest-is : (x : ℕ) → x ≤ P → latest_by P r x ≡ down T x
  unfolding latest_by is_by down
  latest-is x h = le_antisymm below (above (eq-zero-or-pos (x / T)))
    where
      below : greatest (keep (is_by x) deadlines) ≤ down T x
      below =
          greatest-least
          (all_weaker (λ d k. down-greatest T x d k.1 (leb-true d x k.0))
          (all_both (keep-passes (is_by x) deadlines) (all_keep (is_by x) deadlines_divide)))

      above : (x / T ≡ 0) ⊎ (0 < x / T) → down T x ≤ greatest (keep (is_by x) deadlines)
      above (inl z) = rw (z, zero-mul T) zero-le
      above (inr l) = greatest-above (keep_member (is_by x) (le-leb (down T x) x (down-below T x)) (deadline-among x h l))

  module _ (d : ℕ) (low : 0 < d) (high : d ≤ P) (due : T ∣ d) where
    -- a read less than T behind d needs it, and at the begin of a cycle P is needed
    needs-latest : (x : ℕ) → x ≤ P → d ≤ x → x < d + T → needed_at P r x ≡ d
    unfolding needed_at
    needs-latest x h a b =
        let below : down T x ≤ d = not_behind T (down T x) d (down-multiple T x) due (omega (arith, down-below T x, b)) in
        let here : latest_by P r x ≡ d = latest-is x h ∙ le_antisymm below (down-greatest T x d due a) in
        rw (here, ne_eqb d 0 (λ z. omega (arith, low, z)))

    needs-last : d ≡ P → needed_at P r 0 ≡ d
    unfolding needed_at
    needs-last e =
        let none : latest_by P r 0 ≡ 0 = latest-is 0 zero-le ∙ le_antisymm (down-below T 0) zero-le in
        rw none (sym e)

    -- nothing else needs it
    needed_only : (x : ℕ) → x ≤ P → needed_at P r x ≡ d → ((d ≤ x) × (x < d + T)) ⊎ (d ≡ P)
    unfolding needed_at
    needed_only x h n = which (tested (eqb (latest_by P r x) 0))
      where
        which : (eqb (latest_by P r x) 0 ≡ true) ⊎ (eqb (latest_by P r x) 0 ≡ false) → ((d ≤ x) × (x < d + T)) ⊎ (d ≡ P)
        which (inl z) = inr (sym (rw z at n))
        which (inr z) =
            let is : down T x ≡ d = sym (latest-is x h) ∙ rw z at n in
            inl (omega (arith, is, down-below T x), omega (arith, is, down_tight T x pos))

    module _ (u : ℕ) (some : 0 < u) (comes : u ∣ P) where
      -- a read at a multiple of U below P, and what it needs
      read_at_lem : (k : ℕ) → k * u < P → needed_at P r (k * u) ≡ d → any (is_needed_at P r d) (reads_with P u) ≡ true
      unfolding is_needed_at reads_with read_at
      read_at_lem k w n =
          let more : suc k * u ≡ k * u + u = suc-mul k u in
          let behind : u + k * u ≤ P = apart u (k * u) P (dvd-mul_left u k) comes w in
          let last : suc k ≤ P / u = (le-div_iff_mul-le some).1 (omega arith) in
          any-among (is_needed_at P r d) (member_map (read_at u) (member_tab (λ j. j) 0 (P / u) k zero-le (omega arith)))
          (eq-eqb (needed_at P r (k * u)) d n)

      in_window : any (is_needed_at P r d) (reads_with P u) ≡ true → up u d < d + T
      unfolding is_needed_at reads_with read_at
      in_window e =
          let f = any_member (is_needed_at P r d) (reads_with P u) e in
          let s = source (read_at u) (up_to (P / u)) f.among in
          let k = s.one in
          let more : suc k * u ≡ k * u + u = suc-mul k u in
          let within : suc k * u ≤ P = (le-div_iff_mul-le some).0 (all_member (all-up_to (P / u)) s.among) in
          let need : needed_at P r (k * u) ≡ d = ap (needed_at P r) s.gives ∙ eqb-true (needed_at P r f.one) d f.passes in
          which s.one (needed_only (k * u) (omega arith) need)
        where
          which : (k : ℕ) → ((d ≤ k * u) × (k * u < d + T)) ⊎ (d ≡ P) → up u d < d + T
          which k (inl w) = omega (arith, w.1, up_least u d (k * u) (dvd-mul_left u k) w.0)
          which k (inr q) = omega (arith, pos, up_least u d d (rw q comes) (omega arith))

      needed_then : up u d < d + T → any (is_needed_at P r d) (reads_with P u) ≡ true
      unfolding up
      needed_then l = which (le-or-lt P (up u d))
        where
          which : (P ≤ up u d) ⊎ (up u d < P) → any (is_needed_at P r d) (reads_with P u) ≡ true
          which (inr w) = read_at_lem (ceil d u) w (needs-latest (up u d) (omega arith) (up-enough u d some) l)
          which (inl w) =
              let last : P ≤ d = not_behind T P d cycles due (omega arith) in
              read_at_lem 0 (rw (zero-mul u) (omega arith)) (rw (zero-mul u) (needs-last (omega arith)))

      -- rule 21.6 in one line: a multiple of U lies in d to d + T - 1
      pub read_is : any (is_needed_at P r d) (reads_with P u) ≡ is_read T d u
      unfolding is_read
      read_is = by_same (by_itself (any (is_needed_at P r d) (reads_with P u))) (by_lt (up u d) (d + T)) in_window needed_then

-- ---- the runs of a plan

module _ (p : Plan) (kept : PlanKept p) where
  pub period_pos : (i : Invocation) → Memᴰ i p.invocations → 0 < period_of p i
  unfolding the_task
  period_pos i m =
      let h = all_member kept.invocations m in
      let t = all_get_d no_task kept.tasks i.task h.task in
      omega (arith, h.worst, t.worst.least)

  runs_pos : All (λ r. 0 < r.period) (bus_runs p)
  unfolding bus_runs run_of
  runs_pos =
      all_map (run_of p)
      (all_of_members (keep (of_bus_task p) p.invocations) (λ i m. period_pos i (keep-from (of_bus_task p) p.invocations m)))

module _ (p : Plan) (t : ℕ) where
  pub readers_all : is_thinned p t ≡ false → readers_of p t ≡ 1 ∷ []
  unfolding readers_of
  readers_all e = ap (λ (b : Bool). cond b (map (period_of p) (keep (is_reader p t) p.invocations)) (1 ∷ [])) e

  pub readers_some : is_thinned p t ≡ true → readers_of p t ≡ map (period_of p) (keep (is_reader p t) p.invocations)
  unfolding readers_of
  readers_some e = ap (λ (b : Bool). cond b (map (period_of p) (keep (is_reader p t) p.invocations)) (1 ∷ [])) e

-- ---- the consumer edition

module _ (p : Plan) (kept : PlanKept p) (edition : p.consumers ≡ true) where
  abbrev cycle : ℕ
  cycle = (traffic p).period

  -- the consumer of a connection that can be thinned has a period that divides P
  reader-counts : (c : Connection) → Memᴰ c p.connections → can_be_thinned p c ≡ true → (i : Invocation) → i.task ≡ c.consumer
      → is_counted p i ≡ true
  unfolding is_counted thins_for
  reader-counts c m e i t =
      (by_or (by_itself (of_bus_task p i)) (by_itself (any (thins_for p i.task) p.connections))).passes
      (inr (any-among (thins_for p i.task) m (both (eq-eqb c.consumer i.task (sym t)) e)))

  reader_divides : (c : Connection) → Memᴰ c p.connections → can_be_thinned p c ≡ true → (i : Invocation) → Memᴰ i p.invocations
      → i.task ≡ c.consumer → period_of p i ∣ cycle
  unfolding counted_runs run_of
  reader_divides c m e i a t =
      all_member (counted-divides p edition) (member_map (run_of p) (keep_member (is_counted p) (reader-counts c m e i t) a))

  module _ (t : ℕ) where
    thinned_if : any (needs_all p t) p.connections ≡ false → is_thinned p t ≡ true
    unfolding is_thinned
    thinned_if e = both edition (rw e)

    not-thinned_if : any (needs_all p t) p.connections ≡ true → is_thinned p t ≡ false
    unfolding is_thinned
    not-thinned_if e = ap (λ (b : Bool). b && not (any (needs_all p t) p.connections)) edition ∙ rw e

    -- where none of the task's connections needs all, each can be thinned
    thins : any (needs_all p t) p.connections ≡ false → (c : Connection) → Memᴰ c p.connections → c.producer ≡ t → can_be_thinned p c ≡ true
    unfolding needs_all
    thins e c m from =
        let none : (eqb c.producer t && not (can_be_thinned p c)) ≡ false = all_member (none_passes (needs_all p t) p.connections e) m in
        not-false (can_be_thinned p c) (sym (ap (λ (b : Bool). b && not (can_be_thinned p c)) (eq-eqb c.producer t from)) ∙ none)

  module _ (r : Run) (m : Memᴰ r (bus_runs p)) (d : ℕ) (low : 0 < d) (high : d ≤ cycle) (due : r.period ∣ d) where
    abbrev is_needed : Bool
    is_needed = any (needs p cycle r d) p.connections

    -- a connection that can't be thinned needs every message
    needed_by_all : (c : Connection) → Memᴰ c p.connections → needs_all p r.task c ≡ true → is_needed ≡ true
    unfolding needs_all needs
    needed_by_all c a e =
        let from = both_left (eqb c.producer r.task) _ e in
        let all = both_right (eqb c.producer r.task) _ e in
        any-among (needs p cycle r d) a (both from (rw all))

    module _ (none : any (needs_all p r.task) p.connections ≡ false) where
      -- a reader: an invocation of the consumer of one of the task's connections
      read_by : (c : Connection) → Memᴰ c p.connections → c.producer ≡ r.task → (i : Invocation) → Memᴰ i p.invocations
          → i.task ≡ c.consumer → is_read_in p cycle r d i ≡ is_read r.period d (period_of p i)
      unfolding is_read_in
      read_by c a from i among to =
          read_is cycle r (all_member (runs_pos p kept) m) (all_member (run-divides p) m) d low high due (period_of p i)
          (period_pos p kept i among) (reader_divides c a (thins r.task none c a from) i among to)

      abbrev readers : List ℕ
      readers = map (period_of p) (keep (is_reader p r.task) p.invocations)

      needed_read : is_needed ≡ true → is_read_by readers r.period d ≡ true
      unfolding needs is_read_by invokes is_reader leads_to
      needed_read e =
          let c = any_member (needs p cycle r d) p.connections e in
          let from = both_left (eqb c.one.producer r.task) _ c.passes in
          let starts = eqb-true c.one.producer r.task from in
          let either = both_right (eqb c.one.producer r.task) _ c.passes in
          let some = rw (thins r.task none c.one c.among starts) at either in
          let f = any_member (is_read_in p cycle r d) (keep (invokes c.one.consumer) p.invocations) some in
          let i = keep-from (invokes c.one.consumer) p.invocations f.among in
          let invoked = all_member (keep-passes (invokes c.one.consumer) p.invocations) f.among in
          let to = eqb-true f.one.task c.one.consumer invoked in
          let leads = any-among (leads_to r.task f.one.task) c.among (both from (eq-eqb c.one.consumer f.one.task (sym to))) in
          any-among (is_read r.period d) (member_map (period_of p) (keep_member (is_reader p r.task) leads i))
          (sym (read_by c.one c.among starts f.one i to) ∙ f.passes)

      read_needed : is_read_by readers r.period d ≡ true → is_needed ≡ true
      unfolding needs is_read_by invokes is_reader leads_to
      read_needed e =
          let u = any_member (is_read r.period d) readers e in
          let s = source (period_of p) (keep (is_reader p r.task) p.invocations) u.among in
          let i = keep-from (is_reader p r.task) p.invocations s.among in
          let reads = all_member (keep-passes (is_reader p r.task) p.invocations) s.among in
          let c = any_member (leads_to r.task s.one.task) p.connections reads in
          let from = both_left (eqb c.one.producer r.task) _ c.passes in
          let to = sym (eqb-true c.one.consumer s.one.task (both_right (eqb c.one.producer r.task) _ c.passes)) in
          let starts = eqb-true c.one.producer r.task from in
          let passes = read_by c.one c.among starts s.one i to ∙ ap (is_read r.period d) s.gives ∙ u.passes in
          let some = any-among (is_read_in p cycle r d) (keep_member (invokes c.one.consumer) (eq-eqb s.one.task c.one.consumer to) i) passes in
          any-among (needs p cycle r d) c.among (both from (rw (thins r.task none c.one c.among starts) some))

    needed_is : is_needed ≡ is_read_by (readers_of p r.task) r.period d
    needed_is = which (tested (any (needs_all p r.task) p.connections))
      where
        which : (any (needs_all p r.task) p.connections ≡ true) ⊎ (any (needs_all p r.task) p.connections ≡ false)
            → is_needed ≡ is_read_by (readers_of p r.task) r.period d
        which (inl e) =
            let c = any_member (needs_all p r.task) p.connections e in
            needed_by_all c.one c.among c.passes
            ∙ sym (all_read p r.task (not-thinned_if r.task e) r.period d (all_member (runs_pos p kept) m))
        which (inr e) =
            by_same (by_itself is_needed) (by_itself (is_read_by (readers e) r.period d)) (needed_read e) (read_needed e)
            ∙ ap (λ (us : List ℕ). is_read_by us r.period d) (sym (readers_some p r.task (thinned_if r.task e)))

-- ---- the messages, in both forms

pub record DueIn (cycle : ℕ) (r : Run) (d : ℕ) : Type 0 where
  pub low : 0 < d
  pub high : d ≤ cycle
  pub due : r.period ∣ d

pub messages-due : (cycle : ℕ) (r : Run) → 0 < r.period → All (λ m. DueIn cycle r m.deadline) (messages_of cycle r)
unfolding messages_of message
messages-due cycle r pos =
    all-tab (message r) 1 (cycle / r.period)
    (λ k a b. record { low = mul-pos a pos; high = (le-div_iff_mul-le pos).0 (omega arith); due = dvd-mul_left r.period k })

module _ (p : Plan) (kept : PlanKept p) where
  thinned-messages : p.consumers ≡ true → (traffic p).messages ≡ joined (map (kept_messages p (traffic p).period) (bus_runs p))
  unfolding thinned
  thinned-messages e = rw (thinned-is p e)

  basic-messages : p.consumers ≡ false → (traffic p).messages ≡ joined (map (messages_of (traffic p).period) (bus_runs p))
  unfolding basic messages
  basic-messages e = rw (basic-is p e)

  thinned-run : p.consumers ≡ true → (r : Run) → Memᴰ r (bus_runs p)
      → kept_messages p (traffic p).period r ≡ read_messages_of (readers_of p) (traffic p).period r
  unfolding kept_messages is_kept read_messages_of is_read_message
  thinned-run e r m =
      keep_same
      (all_weaker (λ one h. needed_is p kept e r m one.deadline h.low h.high h.due)
      (messages-due (traffic p).period r (all_member (runs_pos p kept) m)))

  basic-run : p.consumers ≡ false → (r : Run) → Memᴰ r (bus_runs p)
      → messages_of (traffic p).period r ≡ read_messages_of (readers_of p) (traffic p).period r
  unfolding read_messages_of is_read_message is_thinned
  basic-run e r m =
      let pos = all_member (runs_pos p kept) m in
      sym (keep_all (is_read_message (readers_of p r.task) r.period)
      (all_weaker (λ one h. all_read p r.task (basic-whole p r.task e) r.period one.deadline pos) (messages-due (traffic p).period r pos)))

  -- rule 21.7 and rule 21.8 keep the same messages, in either edition
  pub needed_exact : (traffic p).messages ≡ read_messages (readers_of p) (traffic p).period (bus_runs p)
  unfolding read_messages
  needed_exact = in-edition p.consumers refl
    where
      in-edition : (b : Bool) → p.consumers ≡ b → (traffic p).messages ≡ joined (map (read_messages_of (readers_of p) (traffic p).period) (bus_runs p))
      in-edition true e = thinned-messages e ∙ ap joined (map_same (all_of_members (bus_runs p) (thinned-run e)))
      in-edition false e = basic-messages e ∙ ap joined (map_same (all_of_members (bus_runs p) (basic-run e)))

-- ---- each bus task has readers

module _ (p : Plan) (kept : PlanKept p) (left : InEdition p) (t : ℕ) where
  abbrev read_invocations : List Invocation
  read_invocations = keep (is_reader p t) p.invocations

  module _ (thin : is_thinned p t ≡ true) where
    is-edition : p.consumers ≡ true
    unfolding is_thinned
    is-edition = both_left p.consumers _ thin

    none-needs-all : any (needs_all p t) p.connections ≡ false
    unfolding is_thinned
    none-needs-all = not-true (any (needs_all p t) p.connections) (both_right p.consumers _ thin)

    some-reader : is_bus_task p t ≡ true → 0 < length read_invocations
    unfolding is_bus_task leaves is_left is_invoked invokes is_reader leads_to
    some-reader bus =
        let c = any_member (leaves p t) p.connections (both_right (any (invokes t) p.invocations) _ bus) in
        let from = both_left (eqb c.one.producer t) _ c.passes in
        let stays = all_member (left.left is-edition) c.among in
        let ends = both_right (not (eqb (task_node p c.one.consumer) (task_node p c.one.producer))) _ stays in
        let i = any_member (invokes c.one.consumer) p.invocations (both_right (is_invoked p c.one.producer) _ ends) in
        let to = eq-eqb c.one.consumer i.one.task (sym (eqb-true i.one.task c.one.consumer i.passes)) in
        member_some (keep_member (is_reader p t) (any-among (leads_to t i.one.task) c.among (both from to)) i.among)

    reader_goes : (i : Invocation) → Memᴰ i read_invocations → (0 < period_of p i) × (period_of p i ∣ (traffic p).period)
    unfolding is_reader leads_to
    reader_goes i m =
        let among = keep-from (is_reader p t) p.invocations m in
        let c = any_member (leads_to t i.task) p.connections (all_member (keep-passes (is_reader p t) p.invocations) m) in
        let from = eqb-true c.one.producer t (both_left (eqb c.one.producer t) _ c.passes) in
        let to = eqb-true c.one.consumer i.task (both_right (eqb c.one.producer t) _ c.passes) in
        let thinnable = thins p kept is-edition t none-needs-all c.one c.among from in
        (period_pos p kept i among, reader_divides p kept is-edition c.one c.among thinnable i among (sym to))

  pub readers_go : is_bus_task p t ≡ true → ReadersGo (traffic p).period (readers_of p t)
  readers_go bus = which (tested (is_thinned p t))
    where
      which : (is_thinned p t ≡ true) ⊎ (is_thinned p t ≡ false) → ReadersGo (traffic p).period (readers_of p t)
      which (inl e) =
          rw (readers_some p t e)
          (record {
            some = rw (length-map read_invocations (period_of p)) (some-reader e bus);
            few = omega (arith, length-map read_invocations (period_of p), length-keep (is_reader p t) p.invocations, kept.invocation_count.most);
            each = all_map (period_of p) (all_of_members read_invocations (reader_goes e));
          })
      which (inr e) =
          rw (readers_all p t e)
          (record { some = lit< tt; few = lit≤ tt; each = also (lit< tt, one-dvd (traffic p).period) empty })

  -- P is a multiple of every reader's period, so the last message of a cycle is always read
  pub kept-at_P : is_bus_task p t ≡ true → (period : ℕ) → 0 < period → is_read_by (readers_of p t) period (traffic p).period ≡ true
  unfolding is_read_by is_read
  kept-at_P bus period pos =
      let go = readers_go bus in
      let first = member_get_or (readers_of p t) 0 0 go.some in
      let comes = (all_member go.each first).1 in
      let P = (traffic p).period in
      any-among (is_read period P) first
      (lt-ltb (up _ P) (P + period) (omega (arith, pos, up_least (get_or (readers_of p t) 0 0) P P comes (omega arith))))
