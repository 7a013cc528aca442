-- Demand 3, the fields: what one tick makes of each place of the state, and of the one board. Nothing behind this file opens `tick`.
use mathlib.Core.Path.{◌≡◌, refl, sym, ap, ◌∙◌}
use mathlib.Core.Bool.{Bool, true, false, cond, not, ◌&&◌, ◌||◌}
use mathlib.Core.List.{List, ◌∷◌}
use mathlib.Core.Option.{Option, none, some}
use lib.Dec.{eqb}
use borrow.Author.Tests.{eqb-true, not-true, not-false, lt-ltb, le-ltb, eq-eqb, ne_eqb}
use Prim.Native.Nat.{ℕ, suc, ◌+◌, ◌%◌, ◌≤◌, ◌<◌, ◌∣◌}
use Rattle.laws.proofs.Lists.{both, both_left, both_right}
use Rattle.laws.specs.Lists.{first_bad, up_to}
use Rattle.laws.proofs.Loops.{first_bad-up_to-some, first_bad-up_to-within, first_bad-up_to-fails, first_with_bad}
use Rattle.laws.proofs.Runs.{within_run}
use Rattle.laws.proofs.Tests.{Tests, by_iff, by_itself, by_eq, by_lt, by_divides, by_and, by_not, by_any-up_to}
use Rattle.rules.specs.Playing.{Input, is_given}
use Rattle.rules.specs.Station.{Kept, State, home_node, run_period, task_age, run_age, is_running, out_after, has_time, row_with}
use Rattle.rules.specs.Station.{is_at, some_at, is_sent_at, some_sent_at, lands_on, landed_after, is_byte_of, held_after, ends_now}
use Rattle.rules.specs.Station.{has_message, own_shows, other_shows, shown_after, mode_after, one_on, age_after, given_after}
use Rattle.rules.specs.Station.{starting_control, mode_byte_after, starts_now, is_taken, full_after, load_after, tick}
use Rattle.rules.specs.Heard.{bus_time, is_heard, heard}
use Rattle.rules.specs.OneBoard.{mode_now, since_mode, period_now, run_ends, result_within, value}

-- a run ends at the tick to come
pub record Ending (k : Kept) (s : State) (t : ℕ) : Type 0 where
  pub invoked : 0 < run_period k s t
  pub released : 0 < task_age k s t
  pub whole : run_period k s t ∣ task_age k s t

pub ending_tests : (k : Kept) (s : State) (t : ℕ) → Tests (ends_now k s t) (Ending k s t)
unfolding ends_now is_running
ending_tests k s t =
    by_iff (by_and (by_and (by_lt 0 (run_period k s t)) (by_lt 0 (task_age k s t))) (by_divides (run_period k s t) (task_age k s t)))
    (λ h. record { invoked = h.0.0; released = h.0.1; whole = h.1 })
    (λ h. ((h.invoked, h.released), h.whole))

-- a pair of the task
pub record PairOf (k : Kept) (t q : ℕ) : Type 0 where
  pub there : q < k.pairs
  pub task : k.pair_task q ≡ t

-- one that has this time
pub record PairAt (k : Kept) (times : ℕ → ℕ) (t now : ℕ) : Type 0 where
  pub pair : ℕ
  pub known : PairOf k t pair
  pub time : times pair ≡ now

pub at_tests : (k : Kept) (times : ℕ → ℕ) (t now : ℕ) → Tests (some_at k times t now) (PairAt k times t now)
unfolding some_at is_at
at_tests k times t now =
    by_iff
    (by_any-up_to (is_at k times t now) k.pairs (λ q w. by_and (by_eq (k.pair_task q) t) (by_eq (times q) now)))
    (λ h. record { pair = h.0; known = record { there = h.1; task = h.2.0 }; time = h.2.1 })
    (λ h. (h.pair, h.known.there, (h.known.task, h.time)))

-- one of which the mode has a message, besides
pub record SentAt (k : Kept) (times : ℕ → ℕ) (t now μ : ℕ) : Type 0 where
  pub pair : ℕ
  pub known : PairOf k t pair
  pub time : times pair ≡ now
  pub has : k.pair_has pair μ ≡ true

pub sent_tests : (k : Kept) (times : ℕ → ℕ) (t now μ : ℕ) → Tests (some_sent_at k times t now μ) (SentAt k times t now μ)
unfolding some_sent_at is_sent_at is_at
sent_tests k times t now μ =
    by_iff
    (by_any-up_to (is_sent_at k times t now μ) k.pairs
    (λ q w. by_and (by_and (by_eq (k.pair_task q) t) (by_eq (times q) now)) (by_itself (k.pair_has q μ))))
    (λ h. record { pair = h.0; known = record { there = h.1; task = h.2.0.0 }; time = h.2.0.1; has = h.2.1 })
    (λ h. (h.pair, h.known.there, ((h.known.task, h.time), h.has)))

-- a message of the task in the mode has the deadline
abbrev pub Messages : Kept → ℕ → ℕ → ℕ → Type 0
Messages k t μ deadline = SentAt k k.pair_deadline t deadline μ

pub message_tests : (k : Kept) (t μ deadline : ℕ) → Tests (has_message k t μ deadline) (Messages k t μ deadline)
unfolding has_message
message_tests k t μ deadline = sent_tests k k.pair_deadline t deadline μ

module _ (k : Kept) (s : State) (i : Input) where
  pub clock_on : s.clock < k.period → (tick k s i).clock ≡ s.clock + 1
  unfolding tick one_on
  clock_on h = rw (lt-ltb s.clock k.period h)

  pub clock-turns : k.period ≤ s.clock → (tick k s i).clock ≡ 1
  unfolding tick one_on
  clock-turns h = rw (le-ltb s.clock k.period h)

  -- the clock is the bus time of the history
  pub clock-time : (past : List Input) → s.clock ≡ bus_time k.period past → (tick k s i).clock ≡ bus_time k.period (i ∷ past)
  unfolding tick bus_time
  clock-time past e = ap (λ (now : ℕ). one_on now k.period) e

  module _ (m : ℕ) where
    pub mode-kept : i.change m ≡ none → (tick k s i).mode m ≡ s.mode m
    unfolding tick mode_after
    mode-kept e = rw e

    pub mode-new : {μ : ℕ} → i.change m ≡ some μ → (tick k s i).mode m ≡ μ
    unfolding tick mode_after
    mode-new e = rw e

    pub age-new : {μ : ℕ} → i.change m ≡ some μ → (tick k s i).age m ≡ 1
    unfolding tick age_after
    age-new e = rw e

    pub age_on : i.change m ≡ none → s.age m < k.mode_period (s.mode m) → (tick k s i).age m ≡ s.age m + 1
    unfolding tick age_after one_on
    age_on e h = rw (e, lt-ltb (s.age m) (k.mode_period (s.mode m)) h)

    pub age-turns : i.change m ≡ none → k.mode_period (s.mode m) ≤ s.age m → (tick k s i).age m ≡ 1
    unfolding tick age_after one_on
    age-turns e h = rw (e, le-ltb (s.age m) (k.mode_period (s.mode m)) h)

  module _ (t : ℕ) where
    pub out-kept : i.result t ≡ none → (tick k s i).out t ≡ s.out t
    unfolding tick out_after
    out-kept e = rw e

    pub out-new : {v : ℕ} → i.result t ≡ some v → (tick k s i).out t ≡ v
    unfolding tick out_after
    out-new e = rw e

    pub given_over : ends_now k s t ≡ true → (tick k s i).given t ≡ false
    unfolding tick given_after
    given_over e = rw e

    pub given-changed : {μ : ℕ} → i.change (k.task_home t) ≡ some μ → (tick k s i).given t ≡ false
    unfolding tick given_after
    given-changed e = rw e (go (ends_now k s t))
      where
        go : (b : Bool) → (not (b || true) && (s.given t || is_given (i.result t))) ≡ false
        go true = refl
        go false = refl

    pub given_on : ends_now k s t ≡ false → i.change (k.task_home t) ≡ none → (tick k s i).given t ≡ (s.given t || is_given (i.result t))
    unfolding tick given_after
    given_on e q = rw (e, q)

    -- (c)
    pub shown-own : ends_now k s t ≡ true → (tick k s i).shown (home_node k t) t ≡ (tick k s i).out t
    unfolding tick shown_after own_shows
    shown-own e = rw (e, eq-eqb (home_node k t) (home_node k t) refl)

    module _ (n : ℕ) where
      pub shown-other : ends_now k s t ≡ true → (home_node k t ≡ n → ⊥) → has_message k t ((tick k s i).held n (k.task_home t)) s.clock ≡ true
          → (tick k s i).shown n t ≡ (tick k s i).landed n t
      unfolding tick shown_after own_shows other_shows
      shown-other e d q = rw (e, ne_eqb (home_node k t) n d) (ap (λ (b : Bool). cond b (landed_after k s n t) (s.shown n t)) q)

      pub shown-unsent : (home_node k t ≡ n → ⊥) → has_message k t ((tick k s i).held n (k.task_home t)) s.clock ≡ false
          → (tick k s i).shown n t ≡ s.shown n t
      unfolding tick shown_after own_shows other_shows
      shown-unsent d q = rw (ne_eqb (home_node k t) n d) (unsent (ends_now k s t) (has_message k t (held_after k s n (k.task_home t)) s.clock) q)
        where
          unsent : (e b : Bool) → b ≡ false → cond (e && false) (out_after s i t) (cond (e && b) (landed_after k s n t) (s.shown n t)) ≡ s.shown n t
          unsent true b q = rw q
          unsent false b q = refl

      pub shown-still : ends_now k s t ≡ false → (tick k s i).shown n t ≡ s.shown n t
      unfolding tick shown_after own_shows other_shows
      shown-still e = rw e

-- ---- (b) and (f): the rows that stop and start now

-- a row has this time
pub record RowAt (times : ℕ → ℕ) (count now r : ℕ) : Type 0 where
  pub there : r < count
  pub time : times r ≡ now

module _ (times : ℕ → ℕ) (count now : ℕ) where
  abbrev has_other : ℕ → Bool
  has_other r = not (eqb (times r) now)

  -- the first row with this time is the first that has not another
  pub row_by_other : row_with times count now ≡ first_bad has_other (up_to count)
  unfolding row_with has_time
  row_by_other = first_with_bad (has_time times now) (up_to count)

  pub row_is : (r : ℕ) → row_with times count now ≡ some r → RowAt times count now r
  row_is r e =
      let bad = sym row_by_other ∙ e in
      record {
        there = first_bad-up_to-within has_other count r bad;
        time = eqb-true (times r) now (not-false (eqb (times r) now) (first_bad-up_to-fails has_other count r bad));
      }

  pub row-found : (r : ℕ) → RowAt times count now r → ((j : ℕ) → j < r → times j ≡ now → ⊥) → row_with times count now ≡ some r
  row-found r h other =
      row_by_other
      ∙ first_bad-up_to-some has_other count r h.there (rw (eq-eqb (times r) now h.time))
      (λ j w. rw (ne_eqb (times j) now (other j w)))

module _ (k : Kept) (s : State) (i : Input) where
  -- control frames: what they bring, and what they take
  module _ (m : ℕ) where
    abbrev IsByte : ℕ → Type 0
    IsByte r = (k.sends m ≡ true) × (k.module_node m ≡ k.control_node r)

    is_byte : (r : ℕ) → IsByte r → is_byte_of k m r ≡ true
    unfolding is_byte_of
    is_byte r h = both h.0 (eq-eqb (k.module_node m) (k.control_node r) h.1)

    pub held_found : (n r : ℕ) → row_with k.control_stop k.controls s.clock ≡ some r → k.sends m ≡ true
        → k.module_node m ≡ k.control_node r → (k.module_node m ≡ n → ⊥) → (tick k s i).held n m ≡ s.mode_byte m
    unfolding tick held_after
    held_found n r e a b d = rw (e, is_byte r (a, b), ne_eqb (k.module_node m) n d)

    pub held-either : {C : Type 0} (n : ℕ) → ((tick k s i).held n m ≡ s.held n m → C) → ((tick k s i).held n m ≡ s.mode_byte m → C) → C
    unfolding tick held_after
    held-either {C} n old new = go (row_with k.control_stop k.controls s.clock) refl
      where
        pick : (b : Bool) → (tick k s i).held n m ≡ cond b (s.mode_byte m) (s.held n m) → C
        pick true e = new e
        pick false e = old e

        go : (o : Option ℕ) → row_with k.control_stop k.controls s.clock ≡ o → C
        go none e = old (rw e)
        go (some r) e = pick (is_byte_of k m r && not (eqb (k.module_node m) n)) (rw e)

    pub byte-found : (r : ℕ) → starting_control k s ≡ some r → k.sends m ≡ true → k.module_node m ≡ k.control_node r
        → (tick k s i).mode_byte m ≡ (tick k s i).mode m
    unfolding tick mode_byte_after
    byte-found r e a b = rw (e, is_byte r (a, b))

    pub byte-either : {C : Type 0} → ((tick k s i).mode_byte m ≡ s.mode_byte m → C) → ((tick k s i).mode_byte m ≡ (tick k s i).mode m → C) → C
    unfolding tick mode_byte_after
    byte-either {C} old new = go (starting_control k s) refl
      where
        pick : (b : Bool) → (tick k s i).mode_byte m ≡ cond b (mode_after s i m) (s.mode_byte m) → C
        pick true e = new e
        pick false e = old e

        go : (o : Option ℕ) → starting_control k s ≡ o → C
        go none e = old (rw e)
        go (some r) e = pick (is_byte_of k m r) (rw e)

  -- data frames
  module _ (n t : ℕ) where
    pub landed-found : PairAt k k.pair_stop t s.clock → s.full t ≡ true → (home_node k t ≡ n → ⊥) → (tick k s i).landed n t ≡ s.load t
    unfolding tick landed_after lands_on
    landed-found h f d = rw ((at_tests k k.pair_stop t s.clock).passes h, f, ne_eqb (home_node k t) n d)

    pub landed-either : {C : Type 0} → ((tick k s i).landed n t ≡ s.landed n t → C)
        → (PairAt k k.pair_stop t s.clock → s.full t ≡ true → (tick k s i).landed n t ≡ s.load t → C) → C
    unfolding tick landed_after lands_on
    landed-either {C} old new = pick (lands_on k s n t) refl refl
      where
        pick : (b : Bool) → lands_on k s n t ≡ b → (tick k s i).landed n t ≡ cond b (s.load t) (s.landed n t) → C
        pick true l e =
            let stops = some_at k k.pair_stop t s.clock in
            let rest = both_right stops (s.full t && not (eqb (home_node k t) n)) l in
            new ((at_tests k k.pair_stop t s.clock).says (both_left stops (s.full t && not (eqb (home_node k t) n)) l))
            (both_left (s.full t) (not (eqb (home_node k t) n)) rest)
            e
        pick false l e = old e

  module _ (t now : ℕ) (time : s.clock % k.period ≡ now) where
    starts-now : PairAt k k.pair_start t now → starts_now k s t ≡ true
    unfolding starts_now
    starts-now h = rw time ((at_tests k k.pair_start t now).passes h)

    none-starts_now : (PairAt k k.pair_start t now → ⊥) → starts_now k s t ≡ false
    unfolding starts_now
    none-starts_now h = rw time (not-true (some_at k k.pair_start t now) ((by_not (at_tests k k.pair_start t now)).passes h))

    pub full-found : PairAt k k.pair_start t now
        → (tick k s i).full t ≡ some_sent_at k k.pair_start t now ((tick k s i).mode (k.task_home t))
    unfolding tick full_after is_taken
    full-found h = rw (starts-now h, time)

    pub full-none : (PairAt k k.pair_start t now → ⊥) → (tick k s i).full t ≡ s.full t
    unfolding tick full_after
    full-none h = rw (none-starts_now h)

    pub load_found : PairAt k k.pair_start t now → (tick k s i).load t ≡ (tick k s i).out t
    unfolding tick load_after
    load_found h = rw (starts-now h)

    pub load-none : (PairAt k k.pair_start t now → ⊥) → (tick k s i).load t ≡ s.load t
    unfolding tick load_after
    load-none h = rw (none-starts_now h)

-- P is time 0 of the next cycle
pub starting-control : (k : Kept) (s : State) (now : ℕ) → s.clock % k.period ≡ now
    → starting_control k s ≡ row_with k.control_start k.controls now
unfolding starting_control
starting-control k s now e = rw e

-- ---- the task's period and age

module _ (k : Kept) (s : State) (i : Input) (t : ℕ) where
  pub period-kept : i.change (k.task_home t) ≡ none → run_period k (tick k s i) t ≡ run_period k s t
  unfolding run_period
  period-kept e = ap (λ (μ : ℕ). k.run μ t) (mode-kept k s i (k.task_home t) e)

  pub task_age-new : {μ : ℕ} → i.change (k.task_home t) ≡ some μ → task_age k (tick k s i) t ≡ 1
  unfolding task_age
  task_age-new e = age-new k s i (k.task_home t) e

  pub task_age_on : i.change (k.task_home t) ≡ none → task_age k s t < k.mode_period (s.mode (k.task_home t))
      → task_age k (tick k s i) t ≡ task_age k s t + 1
  unfolding task_age
  task_age_on e h = age_on k s i (k.task_home t) e h

  pub task_age-turns : i.change (k.task_home t) ≡ none → k.mode_period (s.mode (k.task_home t)) ≤ task_age k s t
      → task_age k (tick k s i) t ≡ 1
  unfolding task_age
  task_age-turns e h = age-turns k s i (k.task_home t) e h

pub run-age : (k : Kept) (s : State) (t : ℕ) → run_age k s t ≡ within_run (task_age k s t) (run_period k s t)
unfolding run_age
run-age k s t = refl

-- ---- one board

module _ (home : ℕ → ℕ) (run : ℕ → ℕ → ℕ) (first : ℕ → ℕ) (i : Input) (past : List Input) where
  module _ (m : ℕ) where
    pub mode_now-kept : i.change m ≡ none → mode_now home run first m (i ∷ past) ≡ mode_now home run first m past
    unfolding mode_now
    mode_now-kept e = rw e

    pub mode_now-new : {μ : ℕ} → i.change m ≡ some μ → mode_now home run first m (i ∷ past) ≡ μ
    unfolding mode_now
    mode_now-new e = rw e

    pub since_on : i.change m ≡ none → since_mode home run first m (i ∷ past) ≡ since_mode home run first m past + 1
    unfolding since_mode
    since_on e = rw e

    pub since-new : {μ : ℕ} → i.change m ≡ some μ → since_mode home run first m (i ∷ past) ≡ 1
    unfolding since_mode
    since-new e = rw e

  module _ (t : ℕ) where
    pub within_none : (n : ℕ) → i.result t ≡ none → result_within home run first t (suc n) (i ∷ past) ≡ result_within home run first t n past
    unfolding result_within
    within_none n e = rw e

    pub within-some : (n : ℕ) {v : ℕ} → i.result t ≡ some v → result_within home run first t (suc n) (i ∷ past) ≡ v
    unfolding result_within
    within-some n e = rw e

    pub value-ends : run_ends home run first t past ≡ true
        → value home run first t (i ∷ past) ≡ result_within home run first t (period_now home run first t past) (i ∷ past)
    unfolding value
    value-ends e = rw e

    pub value-still : run_ends home run first t past ≡ false → value home run first t (i ∷ past) ≡ value home run first t past
    unfolding value
    value-still e = rw e

-- ---- what other nodes hear of

module _ (home : ℕ → ℕ) (run : ℕ → ℕ → ℕ) (first : ℕ → ℕ) (period : ℕ) (sent : ℕ → ℕ → ℕ → Bool) (i : Input) (past : List Input) (t : ℕ) where
  abbrev is_sent : Bool
  is_sent = sent (mode_now home run first (home t) past) t (bus_time period past)

  pub heard-unsent : sent (mode_now home run first (home t) past) t (bus_time period past) ≡ false
      → heard home run first period sent t (i ∷ past) ≡ heard home run first period sent t past
  unfolding heard is_heard
  heard-unsent q = unsent (run_ends home run first t past) is_sent q
    where
      unsent : (e b : Bool) → b ≡ false
          → cond (e && b) (result_within home run first t (period_now home run first t past) (i ∷ past)) (heard home run first period sent t past)
          ≡ heard home run first period sent t past
      unsent true b q = rw q
      unsent false b q = refl

  pub heard-ends : run_ends home run first t past ≡ true → sent (mode_now home run first (home t) past) t (bus_time period past) ≡ true
      → heard home run first period sent t (i ∷ past) ≡ result_within home run first t (period_now home run first t past) (i ∷ past)
  unfolding heard is_heard
  heard-ends e q = rw (e, q)

  pub heard-still : run_ends home run first t past ≡ false
      → heard home run first period sent t (i ∷ past) ≡ heard home run first period sent t past
  unfolding heard is_heard
  heard-still e = rw e
