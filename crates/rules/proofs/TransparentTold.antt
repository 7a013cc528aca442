-- Demand 3 in plain words: the value shown is the one result given to the last run of the task that had ended, or zero if none had.
use mathlib.Core.Path.{◌≡◌, refl, sym, ap, ◌∙◌, subst}
use mathlib.Core.Bool.{Bool, true, false, ◌||◌}
use mathlib.Core.List.{List, [], ◌∷◌}
use mathlib.Core.Logic.{◌⊎◌, inl, inr}
use mathlib.Core.Option.{Option, none, some}
use native.Mathlib.Nat.{not-suc-le-zero, dvd-add, dvd_refl, dvd-sub, le_of_dvd, eq-or-lt_of_le, eq-zero-or-pos}
use native.Mathlib.Omega.{arith}
use lib.ListN.{length}
use Prim.Native.Nat.{ℕ, suc, ◌+◌, ◌-◌, ◌≤◌, ◌<◌, ◌∣◌, zero-le}
use Rattle.laws.proofs.Lists.{true-false, tested}
use Rattle.laws.proofs.Runs.{within_run, run-first, run_ends_lem}
use Rattle.laws.proofs.Tests.{Tests, by_iff, by_lt, by_divides, by_and}
use Rattle.laws.specs.Res.{ok}
use Rattle.rules.specs.Playing.{Input, is_given}
use Rattle.rules.specs.Plan.{Plan}
use Rattle.rules.specs.Traffic.{task_node, read_in}
use Rattle.rules.specs.Frames.{layout_of}
use Rattle.rules.specs.Station.{Kept, State, Begun, kept_of, state_at_start, run_period, task_age, run_age, ends_now, tick, begin}
use Rattle.rules.specs.Obeys.{MayTick}
use Rattle.rules.specs.History.{played, home_in, first_in, board_value, consumes}
use Rattle.rules.specs.OneBoard.{mode_now, since_mode, period_now, run_ends, result_within, value}
use Rattle.rules.specs.Told.{At, newest, older, Enters, from_start, by_change, InMode, EndedRun, OneResult, ValueIs, of_none}
use Rattle.rules.specs.Told.{of_last, Tells, ShowsTold}
use Rattle.rules.proofs.StationExact.{none-some, some_same, given_case}
use Rattle.rules.proofs.TransparentTick.{
  Ending,
  ending_tests,
  out-kept,
  out-new,
  given-changed,
  given_on,
  period-kept,
  task_age-new,
  run-age,
  mode_now-kept,
  mode_now-new,
  since_on,
  since-new,
  value-ends,
  value-still,
}
use Rattle.rules.proofs.TransparentModes.{ModeOf}
use Rattle.rules.proofs.TransparentOwn.{FairTask, Own, own_on, own-start, goes_case, had_at-end, result-at-end, period-is, ends_same}
use Rattle.rules.proofs.TransparentPlan.{kept_for}
use Rattle.rules.proofs.Transparent.{Beginning, along, consumed-there, facts, same-plan, plays_on, fair, first}
use Rattle.rules.proofs.Transparent.{transparent, transparent_own}
use Rattle.rules.specs.Checker.{is_for_consumers}
use Rattle.rules.specs.Readers.{is_thinned}
use Rattle.rules.proofs.Editions.{readable_kept_in}
use Rattle.rules.proofs.AllRead.{basic-whole}

-- ---- ticks by number

pub at-below : {history : List Input} {x : ℕ} {i : Input} → At history x i → x < length history
at-below (newest e) = omega arith
at-below (older a) = omega (arith, at-below a)

pub at_case : {C : Type 0} {past : List Input} {x : ℕ} {i j : Input} → At (j ∷ past) x i → (x ≡ length past → i ≡ j → C) → (At past x i → C) → C
at_case (newest e) new old = new e refl
at_case (older a) new old = old a

pub at-older : {past : List Input} {x : ℕ} {i j : Input} → At (j ∷ past) x i → x < length past → At past x i
at-older a l = at_case a (λ e q. absurd (omega arith)) (λ b. b)

-- ---- modes

module _ (home : ℕ → ℕ) (run : ℕ → ℕ → ℕ) (first : ℕ → ℕ) (m : ℕ) where
  abbrev mode_in : List Input → ℕ
  mode_in = mode_now home run first m

  abbrev since_in : List Input → ℕ
  since_in = since_mode home run first m

  -- what is told up to a tick is told of the ticks before it alone
  enters_back : {past : List Input} {j : Input} {μ since now : ℕ} → now ≤ length past → Enters first m (j ∷ past) μ since now
      → Enters first m past μ since now
  enters_back h (from_start z e q) = from_start z e (λ i l a. q i l (older a))
  enters_back h (by_change i l a e) = by_change i l (at-older a (omega arith)) e

  in_mode_back : {past : List Input} {j : Input} {μ since now : ℕ} → now ≤ length past → InMode first m (j ∷ past) μ since now
      → InMode first m past μ since now
  in_mode_back h t = record { enters = enters_back h t.enters; stays = λ x i l u a. t.stays x i l u (older a) }

  enters_on : {past : List Input} {j : Input} {μ since now : ℕ} → now ≤ length past → Enters first m past μ since now
      → Enters first m (j ∷ past) μ since now
  enters_on h (from_start z e q) = from_start z e (λ i l a. q i l (at-older a (omega arith)))
  enters_on h (by_change i l a e) = by_change i l (older a) e

  in_mode_on : {past : List Input} {j : Input} {μ since now : ℕ} → now ≤ length past → InMode first m past μ since now
      → InMode first m (j ∷ past) μ since now
  in_mode_on h t = record { enters = enters_on h t.enters; stays = λ x i l u a. t.stays x i l u (at-older a (omega arith)) }

  -- a mode that is told is the board's
  pub record IsNow (history : List Input) (μ since : ℕ) : Type 0 where
    pub mode : mode_in history ≡ μ
    pub ticks : since_in history ≡ length history - since
    pub early : since ≤ length history

  -- one tick less, at which nothing changed
  enters_less : {past : List Input} {j : Input} {μ since : ℕ} → j.change m ≡ none → Enters first m (j ∷ past) μ since (suc (length past))
      → Enters first m past μ since (length past)
  enters_less e (from_start z q h) = from_start z q (λ i l a. h i (omega arith) (older a))
  enters_less {past} {j} {μ} {since} e (by_change i l a q) =
      at_case a
      (λ s same. none-some (sym e ∙ subst (λ (x : Input). x.change m ≡ some μ) same q))
      (λ b. by_change i (at-below b) b q)

  in_mode_less : {past : List Input} {j : Input} {μ since : ℕ} → j.change m ≡ none → InMode first m (j ∷ past) μ since (suc (length past))
      → InMode first m past μ since (length past)
  in_mode_less e t = record { enters = enters_less e t.enters; stays = λ x i l u a. t.stays x i l (omega arith) (older a) }

  -- a tick with a change is where its mode was entered
  enters-here : {past : List Input} {j : Input} {μ ν since : ℕ} → j.change m ≡ some ν → InMode first m (j ∷ past) μ since (suc (length past))
      → (since ≡ length past) × (ν ≡ μ)
  enters-here {past} {j} {μ} {ν} {since} e t = go t.enters
    where
      clash : since < length past → ⊥
      clash l = none-some (sym (t.stays (length past) j l (omega arith) (newest refl)) ∙ e)

      go : Enters first m (j ∷ past) μ since (suc (length past)) → (since ≡ length past) × (ν ≡ μ)
      go (from_start z q h) = start (eq-zero-or-pos (length past))
        where
          start : (length past ≡ 0) ⊎ (0 < length past) → (since ≡ length past) × (ν ≡ μ)
          start (inl n) = none-some (sym (h j (omega arith) (newest (sym n))) ∙ e)
          start (inr p) = absurd (clash (omega arith))
      go (by_change i l a q) =
          at_case a
          (λ s same. (s, some_same (sym e ∙ subst (λ (x : Input). x.change m ≡ some μ) same q)))
          (λ b. absurd (clash (at-below b)))

  pub in_mode_now : (history : List Input) (μ since : ℕ) → InMode first m history μ since (length history) → IsNow history μ since
  unfolding mode_now since_mode
  in_mode_now [] μ since t = go t.enters
    where
      go : Enters first m [] μ since 0 → IsNow [] μ since
      go (from_start z e h) = record { mode = sym e; ticks = rw z; early = omega arith }
      go (by_change i l a e) = absurd (not-suc-le-zero l)
  in_mode_now (j ∷ past) μ since t =
      given_case (j.change m)
      (λ e. still e (in_mode_now past μ since (in_mode_less e t)))
      (λ ν e. changed ν e (enters-here e t))
    where
      still : j.change m ≡ none → IsNow past μ since → IsNow (j ∷ past) μ since
      still e h =
          record {
            mode = mode_now-kept home run first j past m e ∙ h.mode;
            ticks = omega (arith, since_on home run first j past m e, h.ticks, h.early);
            early = omega (arith, h.early);
          }

      changed : (ν : ℕ) → j.change m ≡ some ν → (since ≡ length past) × (ν ≡ μ) → IsNow (j ∷ past) μ since
      changed ν e h =
          record {
            mode = mode_now-new home run first j past m e ∙ h.1;
            ticks = omega (arith, since-new home run first j past m e, h.0);
            early = omega (arith, h.0);
          }

  -- and the board's mode can be told
  pub since-below : (history : List Input) → since_in history ≤ length history
  unfolding since_mode
  since-below [] = zero-le
  since-below (j ∷ past) =
      given_case (j.change m)
      (λ e. omega (arith, since_on home run first j past m e, since-below past))
      (λ ν e. omega (arith, since-new home run first j past m e))

  told-still : {past : List Input} {j : Input} {μ since : ℕ} → j.change m ≡ none → InMode first m past μ since (length past)
      → InMode first m (j ∷ past) μ since (suc (length past))
  told-still {past} {j} {μ} {since} e t =
      record {
        enters = go t.enters;
        stays = λ x i l u a.
            at_case a (λ s same. subst (λ (y : Input). y.change m ≡ none) (sym same) e) (λ b. t.stays x i l (at-below b) b);
      }
    where
      go : Enters first m past μ since (length past) → Enters first m (j ∷ past) μ since (suc (length past))
      go (from_start z q h) =
          from_start z q
          (λ i l a. at_case a (λ s same. subst (λ (y : Input). y.change m ≡ none) (sym same) e) (λ b. h i (at-below b) b))
      go (by_change i l a q) = by_change i (omega arith) (older a) q

  told-change : {past : List Input} {j : Input} {ν : ℕ} → j.change m ≡ some ν → InMode first m (j ∷ past) ν (length past) (suc (length past))
  told-change {past} {j} e =
      record { enters = by_change j (omega arith) (newest refl) e; stays = λ x i l u a. absurd (omega arith) }

  pub mode-told : (history : List Input) → InMode first m history (mode_in history) (length history - since_in history) (length history)
  unfolding mode_now since_mode
  mode-told [] = record { enters = from_start refl refl (λ i l a. absurd (not-suc-le-zero l)); stays = λ x i l u a. absurd (not-suc-le-zero u) }
  mode-told (j ∷ past) = given_case (j.change m) (λ e. still e (mode-told past)) changed
    where
      still : j.change m ≡ none → InMode first m past (mode_in past) (length past - since_in past) (length past)
          → InMode first m (j ∷ past) (mode_in (j ∷ past)) (suc (length past) - since_in (j ∷ past)) (suc (length past))
      still e h =
          let s : suc (length past) - (since_in past + 1) ≡ length past - since_in past = omega arith in
          rw (mode_now-kept home run first j past m e, since_on home run first j past m e, s) (told-still e h)

      changed : (ν : ℕ) → j.change m ≡ some ν
          → InMode first m (j ∷ past) (mode_in (j ∷ past)) (suc (length past) - since_in (j ∷ past)) (suc (length past))
      changed ν e =
          let s : suc (length past) - 1 ≡ length past = omega arith in
          rw (mode_now-new home run first j past m e, since-new home run first j past m e, s) (told-change e)

-- ---- runs

module _ (home : ℕ → ℕ) (run : ℕ → ℕ → ℕ) (first : ℕ → ℕ) (t : ℕ) where
  abbrev since_of : List Input → ℕ
  since_of = since_mode home run first (home t)

  abbrev period_of : List Input → ℕ
  period_of = period_now home run first t

  record Ends (past : List Input) : Type 0 where
    invoked : 0 < period_now home run first t past
    released : 0 < since_mode home run first (home t) past
    whole : period_now home run first t past ∣ since_mode home run first (home t) past

  ends_tests : (past : List Input) → Tests (run_ends home run first t past) (Ends past)
  unfolding run_ends
  ends_tests past =
      by_iff (by_and (by_lt 0 (period_of past)) (by_and (by_lt 0 (since_of past)) (by_divides (period_of past) (since_of past))))
      (λ h. record { invoked = h.0; released = h.1.0; whole = h.1.1 })
      (λ h. (h.invoked, (h.released, h.whole)))

  abbrev Ended : List Input → ℕ → ℕ → Type 0
  Ended = EndedRun home run first t

  run_back : {past : List Input} {j : Input} {release T : ℕ} → Ended (j ∷ past) release T → release + T < length past → Ended past release T
  run_back r l =
      record {
        mode = r.mode;
        since = r.since;
        in_mode = in_mode_back home run first (home t) (omega arith) r.in_mode;
        period = r.period;
        lasts = r.lasts;
        began = r.began;
        whole = r.whole;
        ended = l;
      }

  run_on : {past : List Input} {j : Input} {release T : ℕ} → Ended past release T → Ended (j ∷ past) release T
  run_on r =
      record {
        mode = r.mode;
        since = r.since;
        in_mode = in_mode_on home run first (home t) (omega (arith, r.ended)) r.in_mode;
        period = r.period;
        lasts = r.lasts;
        began = r.began;
        whole = r.whole;
        ended = omega (arith, r.ended);
      }

  -- a run that ends at the newest tick is one that the board ends there
  run-ends_now : {past : List Input} {j : Input} {release T : ℕ} → Ended (j ∷ past) release T → release + T ≡ length past
      → run_ends home run first t past ≡ true
  unfolding period_now
  run-ends_now {past} {j} {release} {T} r e =
      let told : InMode first (home t) past r.mode r.since (length past) =
      in_mode_back home run first (home t) (omega arith) (subst (λ (x : ℕ). InMode first (home t) (j ∷ past) r.mode r.since x) e r.in_mode) in
      let now = in_mode_now home run first (home t) past r.mode r.since told in
      let same : period_now home run first t past ≡ T = ap (λ (μ : ℕ). run μ t) now.mode ∙ r.period in
      let ticks : since_of past ≡ release - r.since + T = omega (arith, now.ticks, r.began) in
      let whole : T ∣ since_of past = rw ticks (dvd-add T r.whole (dvd_refl T)) in
      (ends_tests past).passes
      (record {
        invoked = omega (arith, r.lasts);
        released = omega (arith, r.lasts);
        whole = subst (λ (x : ℕ). x ∣ since_of past) (sym same) whole;
      })

  -- and the other way round
  run-told : (past : List Input) (j : Input) → Ends past → Ended (j ∷ past) (length past - period_now home run first t past) (period_now home run first t past)
  unfolding period_now
  run-told past j e =
      let T = period_now home run first t past in
      let fits : T ≤ since_of past = le_of_dvd e.released e.whole in
      let early : since_of past ≤ length past = since-below home run first (home t) past in
      let end : length past - T + T ≡ length past = omega arith in
      let old : length past - T - (length past - since_of past) ≡ since_of past - T = omega arith in
      record {
        mode = mode_now home run first (home t) past;
        since = length past - since_of past;
        in_mode =
            subst (λ (x : ℕ). InMode first (home t) (j ∷ past) (mode_now home run first (home t) past) (length past - since_of past) x) (sym end)
            (in_mode_on home run first (home t) (omega arith) (mode-told home run first (home t) past));
        period = refl;
        lasts = e.invoked;
        began = omega arith;
        whole = rw old (dvd-sub T e.whole (dvd_refl T));
        ended = omega arith;
      }

  -- ---- values

  abbrev One : List Input → ℕ → ℕ → ℕ → Type 0
  One = OneResult home run first t

  one_on : {past : List Input} {j : Input} {release end v : ℕ} → end < length past → One past release end v → One (j ∷ past) release end v
  one_on h r =
      record {
        tick = r.tick;
        input = r.input;
        given = older r.given;
        late = r.late;
        early = r.early;
        result = r.result;
        only = λ x w i l u a q. at_case a (λ s same. absurd (omega arith)) (λ b. r.only x w i l u b q);
      }

  value-told-first : ValueIs home run first t [] 0
  value-told-first = of_none (λ release T r. not-suc-le-zero r.ended) refl

  value-told-still : (past : List Input) (j : Input) {v : ℕ} → run_ends home run first t past ≡ false → ValueIs home run first t past v
      → ValueIs home run first t (j ∷ past) v
  value-told-still past j {v} e = go
    where
      older-run : (release T : ℕ) → Ended (j ∷ past) release T → Ended past release T
      older-run release T r = which (eq-or-lt_of_le bound)
        where
          bound : release + T ≤ length past
          bound = omega (arith, r.ended)

          which : (release + T ≡ length past) ⊎ (release + T < length past) → Ended past release T
          which (inl q) = true-false (sym (run-ends_now r q) ∙ e)
          which (inr l) = run_back r l

      go : ValueIs home run first t past v → ValueIs home run first t (j ∷ past) v
      go (of_none no_run z) = of_none (λ release T r. no_run release T (older-run release T r)) z
      go (of_last release T l one) =
          of_last release T
          (record { one = run_on l.one; last = λ release' T' r. l.last release' T' (older-run release' T' r) })
          (one_on l.one.ended one)

  value-told-ends : (past : List Input) (j : Input) {v : ℕ} → Ends past → One (j ∷ past) (length past - period_now home run first t past) (length past) v
      → ValueIs home run first t (j ∷ past) v
  value-told-ends past j {v} e one =
      let T = period_now home run first t past in
      let fits : T ≤ since_of past = le_of_dvd e.released e.whole in
      let early : since_of past ≤ length past = since-below home run first (home t) past in
      let end : length past - T + T ≡ length past = omega arith in
      of_last (length past - T) T
      (record { one = run-told past j e; last = λ release' T' r. omega (arith, r.ended) })
      (subst (λ (x : ℕ). One (j ∷ past) (length past - T) x v) (sym end) one)

-- ---- the station's runs have one result each

module _ (k : Kept) (first : ℕ → ℕ) (t : ℕ) where
  abbrev Result : List Input → ℕ → ℕ → ℕ → Type 0
  Result = OneResult k.task_home k.run first t

  -- Of the run under way: before its result was given none was; once it was given it is the one result, and in the out-box.
  pub record Words (s : State) (past : List Input) : Type 0 where
    pub own : Own k first t s past
    pub silent : 0 < run_period k s t → 0 < task_age k s t → s.given t ≡ false → (x w : ℕ) (i : Input)
        → length past - run_age k s t < x → At past x i → i.result t ≡ some w → ⊥
    pub once : 0 < run_period k s t → 0 < task_age k s t → s.given t ≡ true
        → Result past (length past - run_age k s t) (length past) (s.out t)
    pub value : ValueIs k.task_home k.run first t past (value k.task_home k.run first t past)

  module _ (fair : FairTask k t) (s : State) (i : Input) (past : List Input) (may : MayTick k s i) (h : Words s past) where
    some-ticks : 0 < task_age k s t → 0 < length past
    unfolding task_age
    some-ticks a =
        omega (arith, h.own.timed.behind, since-below k.task_home k.run first (k.task_home t) past)

    aged : 0 < run_age k s t
    aged = omega (arith, run-age k s t)

    now_once : 0 < run_period k s t → 0 < task_age k s t → (s.given t || is_given (i.result t)) ≡ true
        → Result (i ∷ past) (length past - run_age k s t) (length past) ((tick k s i).out t)
    now_once p a g = given_case (i.result t) (λ e. had e (s.given t) refl (rw e at g)) now
      where
        had : i.result t ≡ none → (b : Bool) → s.given t ≡ b → (b || false) ≡ true
            → Result (i ∷ past) (length past - run_age k s t) (length past) ((tick k s i).out t)
        had e true q r =
            let one = h.once p a q in
            record {
              tick = one.tick;
              input = one.input;
              given = older one.given;
              late = one.late;
              early = one.early;
              result = one.result ∙ ap some (sym (out-kept k s i t e));
              only = λ x w j l u b q.
                  at_case b
                  (λ n same. none-some (sym e ∙ subst (λ (y : Input). y.result t ≡ some w) same q))
                  (λ c. one.only x w j l u c q);
            }
        had e false q r = true-false (sym r)

        now : (v : ℕ) → i.result t ≡ some v → Result (i ∷ past) (length past - run_age k s t) (length past) ((tick k s i).out t)
        now v e =
            let awaited = may.awaited t v fair.place e in
            record {
              tick = length past;
              input = i;
              given = newest refl;
              late = omega (arith, some-ticks a, aged);
              early = omega arith;
              result = e ∙ ap some (sym (out-new k s i t e));
              only = λ x w j l u b q. at_case b (λ n same. n) (λ c. absurd (h.silent p a awaited.first x w j l c q));
            }

    -- a run has not had its result, this tick included
    now_silent : 0 < run_period k s t → 0 < task_age k s t → (s.given t || is_given (i.result t)) ≡ false → (x w : ℕ) (j : Input)
        → length past - run_age k s t < x → At (i ∷ past) x j → j.result t ≡ some w → ⊥
    now_silent p a g x w j l b q = go (s.given t) refl g
      where
        go : (c : Bool) → s.given t ≡ c → (c || is_given (i.result t)) ≡ false → ⊥
        go true e f = true-false f
        go false e f =
            at_case b
            (λ n same. true-false (sym (ap is_given (subst (λ (y : Input). y.result t ≡ some w) same q)) ∙ f))
            (λ c. h.silent p a e x w j l c q)

    -- where a run begins, no tick of it has been
    first-silent : run_age k (tick k s i) t ≡ 1 → (x : ℕ) (j : Input) → suc (length past) - run_age k (tick k s i) t < x
        → At (i ∷ past) x j → ⊥
    first-silent r x j l b = absurd (omega (arith, at-below b))

    changed-first : (μ : ℕ) → i.change (k.task_home t) ≡ some μ → run_age k (tick k s i) t ≡ 1
    changed-first μ e =
        run-age k (tick k s i) t ∙ ap (λ (x : ℕ). within_run x (run_period k (tick k s i) t)) (task_age-new k s i t e)
        ∙ run-first (run_period k (tick k s i) t)

    silent_on : 0 < run_period k (tick k s i) t → (tick k s i).given t ≡ false → (x w : ℕ) (j : Input)
        → suc (length past) - run_age k (tick k s i) t < x → At (i ∷ past) x j → j.result t ≡ some w → ⊥
    silent_on p g x w j l b q =
        given_case (i.change (k.task_home t))
        (λ e.
        let p₀ : 0 < run_period k s t = rw (period-kept k s i t e) at p in
        goes_case k first t fair s i past may h.own e p₀
        (λ r z. first-silent r x j l b)
        (λ a z n r. now_silent p₀ a (sym (given_on k s i t z e) ∙ g) x w j (omega arith) b q))
        (λ μ e. first-silent (changed-first μ e) x j l b)

    later-once : {release v : ℕ} → Result (i ∷ past) release (length past) v → Result (i ∷ past) release (suc (length past)) v
    later-once r =
        record {
          tick = r.tick;
          input = r.input;
          given = r.given;
          late = r.late;
          early = omega (arith, r.early);
          result = r.result;
          only = λ x w j l u b q. r.only x w j l (omega (arith, at-below b)) b q;
        }

    once_on : 0 < run_period k (tick k s i) t → (tick k s i).given t ≡ true
        → Result (i ∷ past) (suc (length past) - run_age k (tick k s i) t) (suc (length past)) ((tick k s i).out t)
    once_on p g =
        given_case (i.change (k.task_home t))
        (λ e.
        let p₀ : 0 < run_period k s t = rw (period-kept k s i t e) at p in
        goes_case k first t fair s i past may h.own e p₀
        (λ r z. true-false (sym g ∙ z))
        (λ a z n r.
        let same : length past - run_age k s t ≡ suc (length past) - run_age k (tick k s i) t = omega arith in
        subst (λ (x : ℕ). Result (i ∷ past) x (suc (length past)) ((tick k s i).out t)) same
        (later-once (now_once p₀ a (sym (given_on k s i t z e) ∙ g)))))
        (λ μ e. true-false (sym g ∙ given-changed k s i t e))

    value_on : ValueIs k.task_home k.run first t (i ∷ past) (value k.task_home k.run first t (i ∷ past))
    value_on = which (tested (ends_now k s t))
      where
        which : (ends_now k s t ≡ true) ⊎ (ends_now k s t ≡ false)
            → ValueIs k.task_home k.run first t (i ∷ past) (value k.task_home k.run first t (i ∷ past))
        which (inl q) =
            let e : Ending k s t = (ending_tests k s t).says q in
            let same = period-is k first t fair s past h.own.timed in
            let ends = ends_same k first t fair s past h.own.timed ∙ q in
            let whole : run_age k s t ≡ period_now k.task_home k.run first t past =
            run-age k s t ∙ run_ends_lem (run_period k s t) (task_age k s t) e.invoked e.released e.whole ∙ sym same in
            let is : (tick k s i).out t ≡ value k.task_home k.run first t (i ∷ past) =
            result-at-end k first t fair s i past may h.own e
            ∙ ap (λ (x : ℕ). result_within k.task_home k.run first t x (i ∷ past)) (sym same)
            ∙ sym (value-ends k.task_home k.run first i past t ends) in
            let one = now_once e.invoked e.released (had_at-end k first t fair s i past may h.own e) in
            value-told-ends k.task_home k.run first t past i ((ends_tests k.task_home k.run first t past).says ends)
            (subst (λ (v : ℕ). Result (i ∷ past) (length past - period_now k.task_home k.run first t past) (length past) v) is
            (subst (λ (r : ℕ). Result (i ∷ past) (length past - r) (length past) ((tick k s i).out t)) whole one))
        which (inr q) =
            let ends = ends_same k first t fair s past h.own.timed ∙ q in
            subst (ValueIs k.task_home k.run first t (i ∷ past)) (sym (value-still k.task_home k.run first i past t ends))
            (value-told-still k.task_home k.run first t past i ends h.value)

    words_on : Words (tick k s i) (i ∷ past)
    words_on =
        record {
          own = own_on k first t fair s i past may h.own;
          silent = λ p a g. silent_on p g;
          once = λ p a g. once_on p g;
          value = value_on;
        }

words-start : (k : Kept) (starting : ℕ → Option ℕ) (t : ℕ) → ModeOf k (k.task_home t) (first_in starting (k.task_home t))
    → Words k (first_in starting) t (state_at_start starting) []
unfolding state_at_start task_age value
words-start k starting t known =
    record {
      own = own-start k starting t known;
      silent = λ p a g. absurd (not-suc-le-zero a);
      once = λ p a g. absurd (not-suc-le-zero a);
      value = value-told-first k.task_home k.run (first_in starting) t;
    }

-- ---- demand 3 in plain words

module _ (plan table : List ℕ) (starting : ℕ → Option ℕ) (b : Begun) (begins : begin plan table starting ≡ ok b)
    (p : Plan) (reads : read_in (is_for_consumers table) plan ≡ ok p) (history : List Input) (s : State) (plays : played b.kept b.state history ≡ ok s) where
  abbrev told : Beginning plan table starting b
  told = facts plan table starting b begins p reads history s plays

  pub words : (t : ℕ) → t < length told.read.tasks → Words (kept_for told.read told.rows) (first_in starting) t s history
  words t w =
      along (kept_for told.read told.rows) starting (Words (kept_for told.read told.rows) (first_in starting) t)
      (words-start (kept_for told.read told.rows) starting t (first plan table starting b begins p reads history s plays t w))
      (λ s' i past may h.
      words_on (kept_for told.read told.rows) (first_in starting) t (fair plan table starting b begins p reads history s plays t w) s' i past may h)
      history s (plays_on plan table starting b begins p reads history s plays)

  board_told : (t : ℕ) → t < length told.read.tasks → Tells told.read starting t history (board_value told.read starting t history)
  unfolding kept_of layout_of board_value home_in
  board_told t w = (words t w).value

  pub value-told : (t : ℕ) → t < length p.tasks → Tells p starting t history (board_value p starting t history)
  value-told t =
      subst (λ (p : Plan). t < length p.tasks → Tells p starting t history (board_value p starting t history))
      (same-plan plan table starting b begins p reads history s plays) (board_told t)

  -- on every node that consumes a task of another node, if it is not thinned
  pub shown-told : (n t : ℕ) → consumes p n t ≡ true → is_thinned p t ≡ false → Tells p starting t history (s.shown n t)
  shown-told n t c whole =
      subst (Tells p starting t history) (sym (transparent plan table starting b begins p reads history s plays n t c whole))
      (value-told t (consumed-there p n t c (readable_kept_in (is_for_consumers table) plan p reads)))

  -- and on a task's own
  pub shown-told-own : (t : ℕ) → t < length p.tasks → Tells p starting t history (s.shown (task_node p t) t)
  shown-told-own t w =
      subst (Tells p starting t history) (sym (transparent_own plan table starting b begins p reads history s plays t w)) (value-told t w)

  -- so in the basic edition at every tick
  pub shows-told : p.consumers ≡ false → ShowsTold p starting history s.shown
  shows-told basic = record { consumed = λ n t c. shown-told n t c (basic-whole p t basic); own = shown-told-own }

-- ---- no second value is told

at_same : {history : List Input} {x : ℕ} {i j : Input} → At history x i → At history x j → i ≡ j
at_same (newest e) b = at_case b (λ q same. sym same) (λ c. absurd (omega (arith, at-below c)))
at_same (older a) b = at_case b (λ q same. absurd (omega (arith, at-below a))) (λ c. at_same a c)

module _ (home : ℕ → ℕ) (run : ℕ → ℕ → ℕ) (first : ℕ → ℕ) (t : ℕ) where
  period-one : (history : List Input) {r r' T T' : ℕ} → EndedRun home run first t history r T → EndedRun home run first t history r' T'
      → r + T ≡ r' + T' → T ≡ T'
  period-one [] a b e = absurd (not-suc-le-zero a.ended)
  period-one (j ∷ past) {r} {r'} {T} {T'} a b e = which (λ c d. period-one past c d e) (eq-or-lt_of_le bound)
    where
      bound : r + T ≤ length past
      bound = omega (arith, a.ended)

      mode-at : {r T : ℕ} (a : EndedRun home run first t (j ∷ past) r T) → r + T ≡ length past → mode_now home run first (home t) past ≡ a.mode
      mode-at a q =
          (in_mode_now home run first (home t) past a.mode a.since
          (in_mode_back home run first (home t) (omega arith)
          (subst (λ (x : ℕ). InMode first (home t) (j ∷ past) a.mode a.since x) q a.in_mode))
          ).mode

      which : (EndedRun home run first t past r T → EndedRun home run first t past r' T' → T ≡ T')
          → (r + T ≡ length past) ⊎ (r + T < length past) → T ≡ T'
      which rest (inl q) =
          sym a.period ∙ ap (λ (μ : ℕ). run μ t) (sym (mode-at a q) ∙ mode-at b (sym e ∙ q)) ∙ b.period
      which rest (inr l) = rest (run_back home run first t a l) (run_back home run first t b (omega arith))

  one_value : {history : List Input} {r r' end end' v w : ℕ} → r ≡ r' → end ≡ end' → OneResult home run first t history r end v
      → OneResult home run first t history r' end' w → v ≡ w
  one_value {history} {v = v} e q a b =
      let same : a.tick ≡ b.tick =
      b.only a.tick v a.input (omega (arith, a.late)) (omega (arith, a.early)) a.given a.result in
      let input : a.input ≡ b.input = at_same a.given (subst (λ (x : ℕ). At history x b.input) (sym same) b.given) in
      some_same (sym a.result ∙ ap (λ (i : Input). i.result t) input ∙ b.result)

  pub value-one : {history : List Input} {v w : ℕ} → ValueIs home run first t history v → ValueIs home run first t history w → v ≡ w
  value-one (of_none a e) (of_none b q) = e ∙ sym q
  value-one (of_none a e) (of_last r T l o) = absurd (a r T l.one)
  value-one (of_last r T l o) (of_none b q) = absurd (b r T l.one)
  value-one {history} (of_last r T l o) (of_last r' T' l' o') =
      let end : r + T ≡ r' + T' = omega (arith, l.last r' T' l'.one, l'.last r T l.one) in
      let same : T ≡ T' = period-one history l.one l'.one end in
      one_value (omega arith) end o o'
