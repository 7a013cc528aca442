-- A tick is accepted exactly when it keeps what refusals 41 to 44 ask, and then the state is that of the six steps; a beginning is
-- accepted exactly when the table passes and each starting place holds what it must.
use mathlib.Core.Path.{◌≡◌, refl, sym, ap, ◌∙◌}
use mathlib.Core.Bool.{Bool, true, false, not, ◌&&◌, ◌||◌}
use mathlib.Core.List.{List, [], ◌∷◌}
use mathlib.Core.Logic.{◌⊎◌, inl, inr, ◌↔◌}
use mathlib.Core.Option.{Option, none, some}
use native.Mathlib.Omega.{arith}
use lib.Dec.{ltb, lit≤}
use lib.ListN.{get_or}
use borrow.Author.Tests.{not-true}
use Prim.Native.Nat.{ℕ, ◌+◌, ◌≤◌, ◌<◌, ◌^◌}
use Rattle.laws.specs.Res.{ok, refuse, at}
use Rattle.laws.specs.Lists.{first_bad, up_to}
use Rattle.laws.specs.Faults.{Rule, AllKept, BreaksAt, FirstFault}
use Rattle.laws.proofs.Lists.{true-false, both_left, both_right}
use Rattle.laws.proofs.Res.{refuse≢ok, bind_case, then_case, bind_refused, then_refused, then_refuse, ok_injective}
use Rattle.laws.proofs.Tests.{Tests, by_iff, by_le, by_lt, by_eq, by_divides, by_and, by_not, Oks}
use Rattle.laws.proofs.Orders.{le-or-lt}
use Rattle.laws.proofs.Faults.{Exact, exact_rule, exact_then, fault_of_rule, rule_of_fault}
use Rattle.laws.proofs.Refusals.{Gives, gives-ok, gives_at, gives_then}
use Rattle.rules.specs.Playing.{module_places, task_places, Input, is_given}
use Rattle.rules.specs.Checker.{Passed, check_files}
use Rattle.rules.specs.Station.{Kept, kept_of, State, run_period, task_age, run_age, is_running, is_awaited, result_awaited, fits_in, result_fits, is_last_chance, result_in_time, is_mode_of, may_switch, may_take, change_allowed, judged_tick, tick, started, step, Ticked, starts_well, Begun, begin}
use Rattle.rules.specs.Obeys.{
  no_rule,
  IsRunning,
  IsAwaited,
  MayChange,
  MayTick,
  tick_rules,
  TickBrokenAt,
  StartsRight,
  start_rule,
  MayBegin,
  BeginBrokenAt,
}
use Rattle.rules.proofs.RefusalNumbers.{passed_gives}

pub none-some : {A B : Type 0} {a : A} → ◌≡◌ {A = Option A} none (some a) → B
none-some e = let z : ◌≡◌ {A = ℕ} 0 1 = cc in absurd (omega arith)

pub some_same : {A : Type 0} {a b : A} → some a ≡ some b → a ≡ b
some_same e = cc

-- what is given, or that nothing is
pub given_case : {C : Type 0} (o : Option ℕ) → (o ≡ none → C) → ((v : ℕ) → o ≡ some v → C) → C
given_case none quiet says = quiet refl
given_case (some v) quiet says = says v refl

module _ (k : Kept) (s : State) where
  pub running_tests : (t : ℕ) → Tests (ltb t k.tasks && is_running k s t) (IsRunning k s t)
  unfolding is_running
  running_tests t =
      by_iff (by_and (by_lt t k.tasks) (by_and (by_lt 0 (run_period k s t)) (by_lt 0 (task_age k s t))))
      (λ h. record { in_plan = h.0; invoked = h.1.0; released = h.1.1 })
      (λ h. (h.in_plan, (h.invoked, h.released)))

  not-given_tests : (t : ℕ) → Tests (not (s.given t)) (s.given t ≡ false)
  not-given_tests t = record { says = not-true (s.given t); passes = λ e. rw e }

  pub awaited_tests : (t : ℕ) → Tests (is_awaited k s t) (IsAwaited k s t)
  unfolding is_awaited
  awaited_tests t =
      by_iff (by_and (running_tests t) (by_and (not-given_tests t) (by_le (run_age k s t) (k.task_worst t))))
      (λ h. record { running = h.0; first = h.1.0; early = h.1.1 })
      (λ h. (h.running, (h.first, h.early)))

  pub change_tests : (m μ : ℕ) → Tests (is_mode_of k m μ && may_switch k s m) (MayChange k s m μ)
  unfolding is_mode_of may_switch
  change_tests m μ =
      by_iff
      (by_and (by_and (by_lt m k.modules) (by_and (by_lt μ k.modes) (by_eq (k.mode_home μ) m))) (by_divides (k.mode_switch (s.mode m)) (s.age m)))
      (λ h. record { in_plan = h.0.0; is_mode = h.0.1.0; own = h.0.1.1; instant = h.1 })
      (λ h. ((h.in_plan, (h.is_mode, h.own)), h.instant))

  module _ (i : Input) where
    result_tests : (t : ℕ) → Tests (result_awaited k s i t) ((v : ℕ) → i.result t ≡ some v → IsAwaited k s t)
    unfolding result_awaited
    result_tests t = go (i.result t)
      where
        go : (o : Option ℕ) → Tests (not (is_given o) || is_awaited k s t) ((v : ℕ) → o ≡ some v → IsAwaited k s t)
        go none = record { says = λ e v q. none-some q; passes = λ h. refl }
        go (some x) = by_iff (awaited_tests t) (λ h v q. h) (λ h. h x refl)

    fits_tests : (t : ℕ) → Tests (result_fits k i t) ((v : ℕ) → i.result t ≡ some v → v < 256 ^ k.task_size t)
    unfolding result_fits
    fits_tests t = go (i.result t)
      where
        go : (o : Option ℕ) → Tests (fits_in (k.task_size t) o) ((v : ℕ) → o ≡ some v → v < 256 ^ k.task_size t)
        go none = record { says = λ e v q. none-some q; passes = λ h. refl }
        go (some x) =
            by_iff (by_lt x (256 ^ k.task_size t)) (λ h v q. rw (← some_same q) h) (λ h. h x refl)

    in_time_tests : (t : ℕ)
        → Tests (result_in_time k s i t)
        (IsRunning k s t → run_age k s t ≡ k.task_worst t → s.given t ≡ false → (v : ℕ) × (i.result t ≡ some v))
    unfolding result_in_time is_last_chance
    in_time_tests t =
        record {
          says = λ e r a g. now (i.result t) (rw ((running_tests t).passes r, (by_eq (run_age k s t) (k.task_worst t)).passes a, g) at e);
          passes = λ h. had (is_last_chance k s t) refl (s.given t) refl h;
        }
      where
        now : (o : Option ℕ) → is_given o ≡ true → (v : ℕ) × (o ≡ some v)
        now none e = true-false (sym e)
        now (some v) e = (v, refl)

        later : (o : Option ℕ) → (v : ℕ) × (o ≡ some v) → is_given o ≡ true
        later none f = none-some f.1
        later (some v) f = refl

        had : (b : Bool) → is_last_chance k s t ≡ b → (g : Bool) → s.given t ≡ g
            → (IsRunning k s t → run_age k s t ≡ k.task_worst t → s.given t ≡ false → (v : ℕ) × (i.result t ≡ some v))
            → (not b || (g || is_given (i.result t))) ≡ true
        had false e g q h = refl
        had true e true q h = refl
        had true e false q h =
            later (i.result t)
            (h ((running_tests t).says (both_left (ltb t k.tasks && is_running k s t) _ e))
            ((by_eq (run_age k s t) (k.task_worst t)).says (both_right (ltb t k.tasks && is_running k s t) _ e))
            q)

    allowed_tests : (m : ℕ) → Tests (change_allowed k s i m) ((μ : ℕ) → i.change m ≡ some μ → MayChange k s m μ)
    unfolding change_allowed
    allowed_tests m = go (i.change m)
      where
        go : (o : Option ℕ) → Tests (may_take k s m o) ((μ : ℕ) → o ≡ some μ → MayChange k s m μ)
        go none = record { says = λ e v q. none-some q; passes = λ h. refl }
        go (some x) = by_iff (change_tests m x) (λ h v q. rw (← some_same q) h) (λ h. h x refl)

    abbrev rule_of : ℕ → Rule
    rule_of j = get_or (tick_rules k s i) j no_rule

    -- 41 to 44, each exactly where its rule is the first that is broken
    pub judged_faults : Exact (judged_tick k s i) (tick_rules k s i)
    unfolding judged_tick
    judged_faults =
        exact_then (exact_rule (rule_of 0) (result_awaited k s i) (λ t w. result_tests t)) λ h₄₁.
        exact_then (exact_rule (rule_of 1) (result_fits k i) (λ t w. fits_tests t)) λ h₄₂.
        exact_then (exact_rule (rule_of 2) (result_in_time k s i) (λ t w. in_time_tests t)) λ h₄₃.
        exact_rule (rule_of 3) (change_allowed k s i) (λ m w. allowed_tests m)

    -- the list of rules and the record of them say the same
    kept-may : AllKept (tick_rules k s i) → MayTick k s i
    kept-may h =
        record {
          awaited = λ t v w. h.0.each t w v;
          fits = λ t v w. h.1.0.each t w v;
          in_time = h.1.1.0.each;
          allowed = λ m μ w. h.1.1.1.0.each m w μ;
        }

    may-kept : MayTick k s i → AllKept (tick_rules k s i)
    may-kept h = (
      record { each = λ t w v. h.awaited t v w },
      (record { each = λ t w v. h.fits t v w }, (record { each = h.in_time }, (record { each = λ m w μ. h.allowed m μ w }, tt))),
    )

    -- 41 to 44 speak exactly where a tick may not be accepted
    pub judged_exact : Oks (judged_tick k s i) (MayTick k s i)
    judged_exact = record { says = λ e. kept-may (judged_faults.says e); passes = λ h. judged_faults.passes (may-kept h) }

-- an accepted tick: what it kept, and the state behind it
pub record Accepted (k : Kept) (s : State) (i : Input) (next : State) : Type 0 where
  pub may : MayTick k s i
  pub is : next ≡ tick k s i

pub step_accepted : (k : Kept) (s : State) (i : Input) (a : Ticked) → step k s i ≡ ok a → Accepted k s i a.state
unfolding step
step_accepted k s i a e =
    then_case (judged_tick k s i) _ e
    (λ u f g. record { may = (judged_exact k s i).says f; is = ap (λ (x : Ticked). x.state) (sym (ok_injective g)) })

pub step-passes : (k : Kept) (s : State) (i : Input) → MayTick k s i → step k s i ≡ ok (record { row = started k s; state = tick k s i })
unfolding step
step-passes k s i h = rw ((judged_exact k s i).passes h)

-- ---- each number for itself

module _ (k : Kept) (s : State) (i : Input) where
  step-refused : (n p : ℕ) → (step k s i ≡ refuse n p) ↔ (judged_tick k s i ≡ refuse n p)
  unfolding step
  step-refused n p =
      (λ e. then_refused (judged_tick k s i) _ e (λ f. f) (λ u f g. refuse≢ok (sym g)), λ e. then_refuse _ e)

  -- 41 to 44: the rules before are kept, and this one is broken, first at this task or module
  pub number_exact : (j p : ℕ) → j < 4 → (step k s i ≡ refuse (41 + j) p) ↔ TickBrokenAt k s i j p
  number_exact j p w = (
    λ e. let f = fault_of_rule no_rule 41 j p (tick_rules k s i) (refl, (refl, (refl, (refl, tt)))) w
        ((judged_faults k s i).refuses (41 + j) p ((step-refused (41 + j) p).0 e)) in
        record { kept = f.0; broken = f.1 },
    λ h. (step-refused (41 + j) p).1
        ((judged_faults k s i).refused (41 + j) p (rule_of_fault no_rule 41 j p (tick_rules k s i) w (h.kept, h.broken))),
  )

  -- and no other number
  pub numbers_of_ticks : Gives 41 44 (step k s i)
  unfolding step judged_tick
  numbers_of_ticks =
      gives_then
      (gives_then (gives_at 41 0 (first_bad (result_awaited k s i) (up_to task_places)) (lit≤ tt) (lit≤ tt))
      (gives_then (gives_at 42 0 (first_bad (result_fits k i) (up_to task_places)) (lit≤ tt) (lit≤ tt))
      (gives_then (gives_at 43 0 (first_bad (result_in_time k s i) (up_to task_places)) (lit≤ tt) (lit≤ tt))
      (gives_at 44 0 (first_bad (change_allowed k s i) (up_to module_places)) (lit≤ tt) (lit≤ tt)))))
      (gives-ok _)

-- ---- a beginning

module _ (k : Kept) (starting : ℕ → Option ℕ) (m : ℕ) where
  empty_place : starting m ≡ none → Tests (not (ltb m k.modules)) (StartsRight k starting m)
  empty_place e =
      by_iff (by_not (by_lt m k.modules))
      (λ h. record { own = λ w. absurd (h w); later = λ w. e })
      (λ h w. none-some (sym e ∙ (h.own w).1))

  -- a module's place: one that holds a mode is no later one
  of_module : (μ : ℕ) → starting m ≡ some μ → StartsRight k starting m → (m < k.modules) × ((μ < k.modes) × (k.mode_home μ ≡ m))
  of_module μ e h = go (le-or-lt k.modules m)
    where
      go : (k.modules ≤ m) ⊎ (m < k.modules) → (m < k.modules) × ((μ < k.modes) × (k.mode_home μ ≡ m))
      go (inl w) = none-some (sym (h.later w) ∙ e)
      go (inr w) =
          let o = h.own w in
          let same : o.0 ≡ μ = some_same (sym o.1 ∙ e) in
          (w, (rw (← same) o.2, rw (← same) o.3))

  mode-place : (μ : ℕ) → starting m ≡ some μ → Tests (is_mode_of k m μ) (StartsRight k starting m)
  unfolding is_mode_of
  mode-place μ e =
      by_iff (by_and (by_lt m k.modules) (by_and (by_lt μ k.modes) (by_eq (k.mode_home μ) m)))
      (λ h. record { own = λ w. (μ, e, h.1.0, h.1.1); later = λ w. absurd (omega (arith, h.0)) })
      (of_module μ e)

  pub starts_tests : Tests (starts_well k starting m) (StartsRight k starting m)
  unfolding starts_well
  starts_tests = given_case (starting m) (λ e. rw e (empty_place e)) (λ μ e. rw e (mode-place μ e))

module _ (plan table : List ℕ) (starting : ℕ → Option ℕ) where
  starts_faults : (c : Passed)
      → Exact (at 40 0 (first_bad (starts_well (kept_of c) starting) (up_to module_places))) (start_rule (kept_of c) starting ∷ [])
  starts_faults c = exact_rule (start_rule (kept_of c) starting) (starts_well (kept_of c) starting) (λ m w. starts_tests (kept_of c) starting m)

  begins : (b : Begun) → begin plan table starting ≡ ok b → MayBegin plan table starting b
  unfolding begin
  begins b e =
      bind_case (check_files plan table) _ e λ c passes e₁.
      then_case (at 40 0 (first_bad (starts_well (kept_of c) starting) (up_to module_places))) _ e₁ λ u starts e₂.
      record { played = c; passes = passes; starts = ((starts_faults c).says starts).0.each; is = sym (ok_injective e₂) }

  may-begin : (b : Begun) → MayBegin plan table starting b → begin plan table starting ≡ ok b
  unfolding begin
  may-begin b h =
      rw (h.passes, (starts_faults h.played).passes (record { each = h.starts }, tt), h.is)

  -- a station begins exactly with a table that passes and a right starting place for each module
  pub begin_exact : (b : Begun) → (begin plan table starting ≡ ok b) ↔ MayBegin plan table starting b
  begin_exact b = (begins b, may-begin b)

  begin-refused : (n p : ℕ) → begin plan table starting ≡ refuse n p
      → (check_files plan table ≡ refuse n p) ⊎ ((c : Passed) × (check_files plan table ≡ ok c) × BreaksAt (start_rule (kept_of c) starting) n p)
  unfolding begin
  begin-refused n p e =
      bind_refused (check_files plan table) _ e inl λ c passes e₁.
      then_refused (at 40 0 (first_bad (starts_well (kept_of c) starting) (up_to module_places))) _ e₁
      (λ f. inr (c, passes, broken c ((starts_faults c).refuses n p f)))
      (λ u f g. refuse≢ok (sym g))
    where
      broken : (c : Passed) → FirstFault (start_rule (kept_of c) starting ∷ []) n p → BreaksAt (start_rule (kept_of c) starting) n p
      broken c (inl b) = b
      broken c (inr h) = absurd h.1

  refuses-starts : (p : ℕ) → BeginBrokenAt plan table starting p → begin plan table starting ≡ refuse 40 p
  unfolding begin
  refuses-starts p h = rw (h.passes, (starts_faults h.played).refused 40 p (inl h.broken))

  refuses-table : (n p : ℕ) → check_files plan table ≡ refuse n p → begin plan table starting ≡ refuse n p
  unfolding begin
  refuses-table n p e = rw e

  -- 40 of a beginning: the table passes, and this is the lowest starting place that is wrong
  pub begin_forty : (p : ℕ) → (begin plan table starting ≡ refuse 40 p) ↔ BeginBrokenAt plan table starting p
  begin_forty p = (λ e. which (begin-refused 40 p e), refuses-starts p)
    where
      which : (check_files plan table ≡ refuse 40 p) ⊎ ((c : Passed) × (check_files plan table ≡ ok c) × BreaksAt (start_rule (kept_of c) starting) 40 p)
          → BeginBrokenAt plan table starting p
      which (inl e) = absurd (omega (arith, (passed_gives plan table).number 40 p e))
      which (inr h) = record { played = h.0; passes = h.1; broken = h.2 }

  -- any other number of a beginning is the checker's
  pub begin_checks : (n p : ℕ) → (n ≡ 40 → ⊥) → (begin plan table starting ≡ refuse n p) ↔ (check_files plan table ≡ refuse n p)
  begin_checks n p other = (λ e. which (begin-refused n p e), refuses-table n p)
    where
      which : (check_files plan table ≡ refuse n p) ⊎ ((c : Passed) × (check_files plan table ≡ ok c) × BreaksAt (start_rule (kept_of c) starting) n p)
          → check_files plan table ≡ refuse n p
      which (inl e) = e
      which (inr h) = absurd (other (sym h.2.its_number))
