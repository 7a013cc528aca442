-- What is told of a task is what the next tick does with it (8.41, 8.43), for any station value whose numbers are in range.
use mathlib.Core.Path.{◌≡◌, refl, sym, ◌∙◌, subst}
use mathlib.Core.Bool.{Bool, true, false, ◌&&◌}
use mathlib.Core.Option.{none, some}
use native.Mathlib.Nat.{zero-add}
use native.Mathlib.Omega.{arith}
use Prim.Native.Nat.{ℕ, ◌-◌, ◌<◌, ◌≤◌}
use lib.Dec.{ltb}
use Rattle.laws.specs.Res.{ok, refuse}
use Rattle.laws.proofs.Lists.{true-false}
use Rattle.places.specs.Flags.{flag_byte}
use Rattle.rules.specs.Playing.{Input, task_places}
use Rattle.rules.specs.Station.{Kept, State, Ticked, is_awaited, run_age}
use Rattle.rules.specs.StationRange.{in_range, ticked}
use Rattle.rules.specs.Obeys.{IsAwaited}
use Rattle.rules.proofs.StationExact.{awaited_tests, none-some, number_exact, step_accepted}
use Rattle.rules.proofs.StationStays.{in_range_steps}
use Rattle.outward.specs.Seen.{has_begun, task_if, task_now, ticks_left}

-- ---- what is told

module _ (k : Kept) (s : State) (t : ℕ) where
  awaits_if : (b : Bool) → (task_if b k s t).awaits ≡ 1 → is_awaited k s t ≡ true
  awaits_if true e = set (is_awaited k s t) e
    where
      set : (x : Bool) → flag_byte x ≡ 1 → x ≡ true
      set true q = refl
      set false q = absurd (omega arith)
  awaits_if false e = absurd (omega arith)

  pub told-awaits : (task_now k s t).awaits ≡ 1 → is_awaited k s t ≡ true
  unfolding task_now
  told-awaits = awaits_if (has_begun k && ltb t k.tasks)

  pub told-left : (task_now k s t).awaits ≡ 1 → (task_now k s t).left ≡ ticks_left k s t
  unfolding task_now
  told-left = go (has_begun k && ltb t k.tasks)
    where
      go : (b : Bool) → (task_if b k s t).awaits ≡ 1 → (task_if b k s t).left ≡ ticks_left k s t
      go true e = refl
      go false e = absurd (omega arith)

-- ---- what the next tick does

module _ (k : Kept) (s : State) (right : in_range k s ≡ true) (t : ℕ) (place : t < task_places) where
  left_is : is_awaited k s t ≡ true → ticks_left k s t ≡ k.task_worst t - run_age k s t
  unfolding ticks_left
  left_is e = rw e

  module _ (i : Input) where
    -- of a task that awaits no result one is refused, with 41 at the task, where no result of a lower task is
    pub refused-not-awaited : is_awaited k s t ≡ false → (v : ℕ) → i.result t ≡ some v
        → ((j w : ℕ) → j < t → i.result j ≡ some w → is_awaited k s j ≡ true) → ticked k s i ≡ refuse 41 t
    refused-not-awaited e v gives lower =
        in_range_steps k s i right
        ∙ (number_exact k s i 0 t (omega arith)).1
        (record {
          kept = tt;
          broken =
              record {
                place = t;
                within = place;
                lowest = λ j w x q. (awaited_tests k s j).says (lower j x w q);
                broken = λ h. true-false (sym ((awaited_tests k s t).passes (h v gives)) ∙ e);
                its_number = refl;
                its_record = zero-add t;
              };
        })

    -- of one that awaits a result, none is
    pub taken-awaited : is_awaited k s t ≡ true → ticked k s i ≡ refuse 41 t → ⊥
    taken-awaited e r =
        let f = (number_exact k s i 0 t (omega arith)).0 (sym (in_range_steps k s i right) ∙ r) in
        let same : f.broken.place ≡ t = sym (zero-add f.broken.place) ∙ f.broken.its_record in
        f.broken.broken (λ v q. subst (λ (z : ℕ). IsAwaited k s z) (sym same) ((awaited_tests k s t).says e))

    -- where no tick is left, none is accepted without the result
    pub none_left : is_awaited k s t ≡ true → ticks_left k s t ≡ 0 → i.result t ≡ none → (x : Ticked) → ticked k s i ≡ ok x → ⊥
    none_left e z quiet x r =
        let a = (awaited_tests k s t).says e in
        let may = (step_accepted k s i x (sym (in_range_steps k s i right) ∙ r)).may in
        let left : k.task_worst t - run_age k s t ≡ 0 = sym (left_is e) ∙ z in
        let early : run_age k s t ≤ k.task_worst t = a.early in
        let due : run_age k s t ≡ k.task_worst t = omega arith in
        none-some (sym quiet ∙ (may.in_time t place a.running due a.first).1)

    -- where one is left, the task is not overdue
    pub some_left : is_awaited k s t ≡ true → (ticks_left k s t ≡ 0 → ⊥) → ticked k s i ≡ refuse 43 t → ⊥
    some_left e more r =
        let f = (number_exact k s i 2 t (omega arith)).0 (sym (in_range_steps k s i right) ∙ r) in
        let same : f.broken.place ≡ t = sym (zero-add f.broken.place) ∙ f.broken.its_record in
        f.broken.broken (λ _ a _.
        let due : run_age k s t ≡ k.task_worst t = subst (λ (z : ℕ). run_age k s z ≡ k.task_worst z) same a in
        let gone : k.task_worst t - run_age k s t ≡ 0 = omega arith in
        absurd (more (left_is e ∙ gone)))
