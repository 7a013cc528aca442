-- Sent: which messages a kept plan has. A mode has a message of a task with a deadline exactly when the task is a bus task, its period in
-- the mode is above 0 and divides the deadline, the deadline lies within 1 to P, and the message is read. Every pair has a mode, and all its modes are of its
-- task's module, so that pairs of two modules have no mode in common.
use mathlib.Core.Path.{◌≡◌, refl, sym, ap, ◌∙◌, subst}
use mathlib.Core.Bool.{true, false, ◌&&◌}
use mathlib.Core.List.{List, [], ◌∷◌, map, Memᴰ}
use mathlib.Core.Logic.{◌⊎◌, inl, inr}
use native.Mathlib.Nat.{div-mul_cancel, le-div_iff_mul-le, dvd-mul_left, mul-pos, le_of_dvd}
use native.Mathlib.Omega.{arith}
use borrow.Author.Tests.{eqb-true, eq-eqb}
use lib.Dec.{eqb, ltb}
use lib.ListN.{length}
use Prim.Native.Nat.{ℕ, ◌+◌, ◌*◌, ◌-◌, ◌/◌, ◌≤◌, ◌<◌, ◌∣◌}
use Rattle.laws.specs.Lists.{keep}
use Rattle.laws.specs.Numbers.{divides}
use Rattle.laws.proofs.Lists.{true-false, both, both_left, both_right, tested}
use Rattle.laws.proofs.Tests.{Tests, by_iff, by_itself, by_same, by_and, by_eq, by_lt, by_divides}
use Rattle.laws.proofs.Members.{All, empty, also, all_member, all_of_members, all_map, all-tab, all_both, all_keep, all_weaker, all-joined, keep-passes, keep_member, keep-from, any_member, any-among, member_map, member_tab, source}
use Rattle.laws.proofs.Orders.{compare_case}
use Rattle.laws.proofs.Places.{member_place, member_joined}
use Rattle.rules.specs.Plan.{Invocation, Plan, no_invocation, the_mode, the_task, the_invocation, period_of}
use Rattle.rules.specs.Traffic.{is_bus_task, Run, run_of, of_bus_task, bus_runs, Message, message, messages_of, traffic, is_message, has}
use Rattle.rules.specs.Readers.{is_read_by, readers_of, is_read_message, read_messages_of, read_messages}
use Rattle.rules.specs.Frames.{Pair, pair_of, pairs, is_in, mode_of_message, modes_of, has_of}
use Rattle.rules.specs.Playing.{is_run, period_among, period_in}
use Rattle.rules.proofs.PairsOf.{release-greatest, plan-pairs}
use Rattle.rules.proofs.PlanKept.{PlanKept}
use Rattle.rules.proofs.Grid.{message-number}
use Rattle.rules.proofs.Needed.{period_pos, needed_exact}

-- ---- the invocation behind a run

pub record RunAmong (p : Plan) (is : List Invocation) (μ t : ℕ) : Type 0 where
  pub one : Invocation
  pub among : Memᴰ one is
  pub mode : one.mode ≡ μ
  pub task : one.task ≡ t
  pub period : period_of p one ≡ period_among p is μ t

module _ (p : Plan) (μ t : ℕ) where
  -- no invocation of the task in the mode
  pub record NoRun (is : List Invocation) : Type 0 where
    pub none : All (λ i. is_run μ t i ≡ false) is
    pub period : period_among p is μ t ≡ 0

  pub run-or-none : (is : List Invocation) → RunAmong p is μ t ⊎ NoRun is
  unfolding period_among is_run
  run-or-none [] = inr (record { none = empty; period = refl })
  run-or-none (i ∷ is) = first (tested (is_run μ t i)) (run-or-none is)
    where
      first : (is_run μ t i ≡ true) ⊎ (is_run μ t i ≡ false) → RunAmong p is μ t ⊎ NoRun is → RunAmong p (i ∷ is) μ t ⊎ NoRun (i ∷ is)
      first (inl e) rest =
          inl (record {
            one = i;
            among = Memᴰ.head refl;
            mode = eqb-true i.mode μ (both_left (eqb i.mode μ) (eqb i.task t) e);
            task = eqb-true i.task t (both_right (eqb i.mode μ) (eqb i.task t) e);
            period = rw e;
          })
      first (inr e) (inl r) =
          inl (record { one = r.one; among = Memᴰ.tail r.among; mode = r.mode; task = r.task; period = rw e r.period })
      first (inr e) (inr n) = inr (record { none = also e n.none; period = rw e n.period })

  pub run_in : 0 < period_in p μ t → RunAmong p p.invocations μ t
  unfolding period_in
  run_in h = which (run-or-none p.invocations)
    where
      which : RunAmong p p.invocations μ t ⊎ NoRun p.invocations → RunAmong p p.invocations μ t
      which (inl r) = r
      which (inr n) = absurd (omega (arith, h, n.period))

module _ (p : Plan) (kept : PlanKept p) where
  -- rule 6.5.7: of a task and a mode there is one invocation
  pub invocation-once : (i j : Invocation) → Memᴰ i p.invocations → Memᴰ j p.invocations → i.mode ≡ j.mode → i.task ≡ j.task
      → i ≡ j
  unfolding the_invocation
  invocation-once i j a b μ t =
      let x = member_place no_invocation a in
      let y = member_place no_invocation b in
      let mode : (the_invocation p x.at).mode ≡ (the_invocation p y.at).mode = rw (x.is, y.is) μ in
      let task : (the_invocation p x.at).task ≡ (the_invocation p y.at).task = rw (x.is, y.is) t in
      compare_case x.at y.at (λ l q. absurd (kept.once x.at y.at l y.within mode task))
      (λ e q. sym x.is ∙ ap (the_invocation p) e ∙ y.is)
      (λ l q. absurd (kept.once y.at x.at l x.within (sym mode) (sym task)))

  -- so the period of the task in the mode is that of the invocation, and it is not 0
  pub period-is : (i : Invocation) → Memᴰ i p.invocations → period_in p i.mode i.task ≡ period_of p i
  unfolding period_in is_run
  period-is i m = which (run-or-none p i.mode i.task p.invocations)
    where
      which : RunAmong p p.invocations i.mode i.task ⊎ NoRun p i.mode i.task p.invocations
          → period_among p p.invocations i.mode i.task ≡ period_of p i
      which (inl r) = sym r.period ∙ ap (period_of p) (invocation-once r.one i r.among m r.mode r.task)
      which (inr n) =
          true-false (sym (both (eq-eqb i.mode i.mode refl) (eq-eqb i.task i.task refl)) ∙ all_member n.none m)

-- ---- the messages of a plan

-- a message of a plan: the invocation that it is of, its number among that one's, and that it is read
pub record MessageOf (p : Plan) (m : Message) : Type 0 where
  pub one : Invocation
  pub among : Memᴰ one p.invocations
  pub bus : is_bus_task p one.task ≡ true
  pub number : ℕ
  pub first : 0 < number
  pub last : number ≤ (traffic p).period / period_of p one
  pub read : is_read_by (readers_of p one.task) (period_of p one) (number * period_of p one) ≡ true
  pub is : message (run_of p one) number ≡ m

-- a message of a run, by its number
abbrev Numbered : ℕ → Run → Message → Type 0
Numbered cycle r m = (k : ℕ) × (0 < k) × (k ≤ cycle / r.period) × (message r k ≡ m)

numbered : (cycle : ℕ) (r : Run) → All (Numbered cycle r) (messages_of cycle r)
unfolding messages_of
numbered cycle r = all-tab (message r) 1 (cycle / r.period) (λ k a b. (k, a, omega arith, refl))

module _ (p : Plan) (kept : PlanKept p) where
  read_of : (i : Invocation) → Memᴰ i p.invocations → is_bus_task p i.task ≡ true
      → All (MessageOf p) (read_messages_of (readers_of p) (traffic p).period (run_of p i))
  unfolding read_messages_of is_read_message message run_of
  read_of i m bus =
      let T = period_of p i in
      let us = readers_of p i.task in
      let sent = messages_of (traffic p).period (run_of p i) in
      all_weaker
      (λ one h.
      record {
        one = i;
        among = m;
        bus = bus;
        number = h.1.0;
        first = h.1.1;
        last = h.1.2;
        read = subst (λ (m : Message). is_read_by us T m.deadline ≡ true) (sym h.1.3) h.0;
        is = h.1.3;
      })
      (all_both (keep-passes (is_read_message us T) sent) (all_keep (is_read_message us T) (numbered (traffic p).period (run_of p i))))

  pub messages-of : All (MessageOf p) (traffic p).messages
  unfolding read_messages bus_runs of_bus_task
  messages-of =
      rw (needed_exact p kept)
      (all-joined
      (all_map (read_messages_of (readers_of p) (traffic p).period)
      (all_map (run_of p)
      (all_of_members (keep (of_bus_task p) p.invocations) λ i m.
      read_of i (keep-from (of_bus_task p) p.invocations m) (all_member (keep-passes (of_bus_task p) p.invocations) m)))))

  -- message k of an invocation of a bus task, if it is read
  pub message-among : (i : Invocation) (k : ℕ) → Memᴰ i p.invocations → is_bus_task p i.task ≡ true → 0 < k
      → k ≤ (traffic p).period / period_of p i → is_read_by (readers_of p i.task) (period_of p i) (k * period_of p i) ≡ true
      → Memᴰ (message (run_of p i) k) (traffic p).messages
  unfolding read_messages read_messages_of is_read_message messages_of message bus_runs of_bus_task run_of
  message-among i k m bus low high read =
      rw (needed_exact p kept)
      (member_joined (map (read_messages_of (readers_of p) (traffic p).period) (bus_runs p))
      (keep_member (is_read_message (readers_of p i.task) (period_of p i)) read (member_tab (message (run_of p i)) 1 ((traffic p).period / period_of p i) k low (omega arith)))
      (member_map (read_messages_of (readers_of p) (traffic p).period) (member_map (run_of p) (keep_member (of_bus_task p) bus m))))

-- ---- which messages there are

-- a message of this mode and task with this deadline
pub record Such (ms : List Message) (μ t deadline : ℕ) : Type 0 where
  pub one : Message
  pub among : Memᴰ one ms
  pub mode : one.mode ≡ μ
  pub task : one.task ≡ t
  pub due : one.deadline ≡ deadline

module _ (μ t d : ℕ) where
  is-message : (m : Message) → Tests (is_message μ t d m) ((m.mode ≡ μ) × ((m.task ≡ t) × (m.deadline ≡ d)))
  unfolding is_message
  is-message m = by_and (by_eq m.mode μ) (by_and (by_eq m.task t) (by_eq m.deadline d))

  pub has_such : (ms : List Message) → Tests (has ms μ t d) (Such ms μ t d)
  unfolding has
  has_such ms =
      record {
        says = λ e.
            let f = any_member (is_message μ t d) ms e in
            let h = (is-message f.one).says f.passes in
            record { one = f.one; among = f.among; mode = h.0; task = h.1.0; due = h.1.1 };
        passes = λ s. any-among (is_message μ t d) s.among ((is-message s.one).passes (s.mode, (s.task, s.due)));
      }

-- what makes a mode have a message of the task with this deadline
pub record IsSent (p : Plan) (μ t deadline : ℕ) : Type 0 where
  pub bus : is_bus_task p t ≡ true
  pub runs : 0 < period_in p μ t
  pub due : period_in p μ t ∣ deadline
  pub low : 0 < deadline
  pub high : deadline ≤ (traffic p).period
  pub read : is_read_by (readers_of p t) (period_in p μ t) deadline ≡ true

module _ (p : Plan) (kept : PlanKept p) where
  pub such_sent : {μ t d : ℕ} → IsSent p μ t d → Such (traffic p).messages μ t d
  unfolding period_in run_of message
  such_sent {μ} {t} {d} s =
      let r = run_in p μ t s.runs in
      let T = period_of p r.one in
      let pos : 0 < T = rw r.period s.runs in
      let e : d / T * T ≡ d = div-mul_cancel T (rw r.period s.due) in
      let last : d / T ≤ (traffic p).period / T = (le-div_iff_mul-le pos).1 (rw e s.high) in
      record {
        one = message (run_of p r.one) (d / T);
        among =
            message-among p kept r.one (d / T) r.among (rw r.task s.bus) (message-number (d / T) T d e s.low).0 last
            (rw (e, r.task, r.period) s.read);
        mode = r.mode;
        task = r.task;
        due = e;
      }

  sent_of : {m : Message} → MessageOf p m → IsSent p m.mode m.task m.deadline
  unfolding message run_of
  sent_of h =
      let T = period_of p h.one in
      let pos : 0 < T = period_pos p kept h.one h.among in
      let sent : IsSent p h.one.mode h.one.task (h.number * T) =
      record {
        bus = h.bus;
        runs = rw (period-is p kept h.one h.among) pos;
        due = rw (period-is p kept h.one h.among) (dvd-mul_left T h.number);
        low = mul-pos h.first pos;
        high = (le-div_iff_mul-le pos).0 h.last;
        read = rw (period-is p kept h.one h.among) h.read;
      } in
      subst (λ (m : Message). IsSent p m.mode m.task m.deadline) h.is sent

  -- a message is released its task's worst time behind the begin of its run
  pub message-release : {m : Message} → Memᴰ m (traffic p).messages
      → m.deadline + (the_task p m.task).worst ≡ m.release + period_in p m.mode m.task
  unfolding message run_of
  message-release {m} a =
      let h = all_member (messages-of p kept) a in
      let T = period_of p h.one in
      let w = (the_task p h.one.task).worst in
      let d = h.number * T in
      let low : 0 < d = mul-pos h.first (period_pos p kept h.one h.among) in
      let before : (h.number - 1) * T ≡ d - T = (message-number h.number T d refl low).1 in
      let released : d + w ≡ (h.number - 1) * T + w + period_in p h.one.mode h.one.task =
      omega (arith, le_of_dvd low (dvd-mul_left T h.number), period-is p kept h.one h.among) in
      subst (λ (m : Message). m.deadline + (the_task p m.task).worst ≡ m.release + period_in p m.mode m.task) h.is released

  such_is : {μ t d : ℕ} → Such (traffic p).messages μ t d → IsSent p μ t d
  such_is s = rw (s.mode, s.task, s.due) at (sent_of (all_member (messages-of p kept) s.among))

  -- exactly these messages there are
  pub has_means : (μ t d : ℕ) → Tests (has (traffic p).messages μ t d) (IsSent p μ t d)
  has_means μ t d = by_iff (has_such μ t d (traffic p).messages) such_is such_sent

  -- by division, and by who reads
  pub has-is : (μ t d : ℕ) → 0 < d → d ≤ (traffic p).period
      → has (traffic p).messages μ t d
      ≡ (is_bus_task p t && (ltb 0 (period_in p μ t) && (divides (period_in p μ t) d && is_read_by (readers_of p t) (period_in p μ t) d)))
  has-is μ t d low high =
      by_same (has_means μ t d)
      (by_and (by_itself (is_bus_task p t))
      (by_and (by_lt 0 (period_in p μ t))
      (by_and (by_divides (period_in p μ t) d) (by_itself (is_read_by (readers_of p t) (period_in p μ t) d)))))
      (λ s. (s.bus, (s.runs, (s.due, s.read))))
      (λ h. record { bus = h.0; runs = h.1.0; due = h.1.1.0; low = low; high = high; read = h.1.1.1 })

-- ---- the modes of pairs

module _ (ms : List Message) (f : Pair) where
  is-in : (m : Message) → Tests (is_in f m) ((m.task ≡ f.task) × (m.deadline ≡ f.deadline))
  unfolding is_in
  is-in m = by_and (by_eq m.task f.task) (by_eq m.deadline f.deadline)

  -- the modes of a pair are those that have a message of its task with its deadline
  pub modes_mean : (μ : ℕ) → Tests (has_of ms μ f) (Memᴰ μ (modes_of ms f))
  unfolding has_of modes_of
  modes_mean μ =
      by_iff (has_such μ f.task f.deadline ms)
      (λ s.
      let kept = keep_member (is_in f) ((is-in s.one).passes (s.task, s.due)) s.among in
      subst (λ (x : ℕ). Memᴰ x (modes_of ms f)) s.mode (member_map mode_of_message kept))
      (λ m.
      let s = source mode_of_message (keep (is_in f) ms) m in
      let h = (is-in s.one).says (all_member (keep-passes (is_in f) ms) s.among) in
      record { one = s.one; among = keep-from (is_in f) ms s.among; mode = s.gives; task = h.0; due = h.1 })

-- a mode of the task's module
pub record OwnMode (p : Plan) (t μ : ℕ) : Type 0 where
  pub there : μ < length p.modes
  pub own : (the_mode p μ).home ≡ (the_task p t).home

module _ (p : Plan) (kept : PlanKept p) where
  -- only such modes have messages of the task
  pub own-mode : (μ t d : ℕ) → has (traffic p).messages μ t d ≡ true → OwnMode p t μ
  own-mode μ t d e =
      let r = run_in p μ t ((has_means p kept μ t d).says e).runs in
      let i = all_member kept.invocations r.among in
      record { there = rw r.mode at i.mode; own = rw (r.mode, r.task) at (sym i.home) }

  -- every pair has a mode
  pub some-mode : (f : Pair) → Memᴰ f (pairs p) → (μ : ℕ) × (has_of (traffic p).messages μ f ≡ true)
  unfolding has_of pair_of
  some-mode f m =
      let s = source pair_of (traffic p).messages ((plan-pairs p).comes f m) in
      let such : Such (traffic p).messages s.one.mode f.task f.deadline =
      record {
        one = s.one;
        among = s.among;
        mode = refl;
        task = ap (λ (g : Pair). g.task) s.gives;
        due = ap (λ (g : Pair). g.deadline) s.gives;
      } in
      (s.one.mode, (has_such s.one.mode f.task f.deadline (traffic p).messages).passes such)

  -- a mode has messages of one module alone
  pub one_module : (μ : ℕ) (f g : Pair) → has_of (traffic p).messages μ f ≡ true → has_of (traffic p).messages μ g ≡ true
      → (the_task p f.task).home ≡ (the_task p g.task).home
  unfolding has_of
  one_module μ f g a b = sym (own-mode μ f.task f.deadline a).own ∙ (own-mode μ g.task g.deadline b).own

  -- a message is in a pair
  pub sent-pair : (μ t d : ℕ) → has (traffic p).messages μ t d ≡ true → (f : Pair) × Memᴰ f (pairs p) × (f.task ≡ t) × (f.deadline ≡ d)
  unfolding pair_of
  sent-pair μ t d e =
      let s = (has_such μ t d (traffic p).messages).says e in
      let c = (plan-pairs p).covered (pair_of s.one) (member_map pair_of s.among) in
      (c.one, c.among, c.covers.task ∙ s.task, c.covers.deadline ∙ s.due)

  -- a pair is not released before the message that a mode has of it
  pub pair-release : (μ : ℕ) (f : Pair) → Memᴰ f (pairs p) → has_of (traffic p).messages μ f ≡ true
      → f.deadline + (the_task p f.task).worst ≤ f.release + period_in p μ f.task
  unfolding has_of pair_of
  pair-release μ f m e =
      let s = (has_such μ f.task f.deadline (traffic p).messages).says e in
      let own = message-release p kept s.among in
      let later : s.one.release ≤ f.release =
      release-greatest (plan-pairs p) f (pair_of s.one) m (member_map pair_of s.among) (sym s.task) (sym s.due) in
      omega (arith, rw (s.mode, s.task, s.due) at own, later)
