-- Frames stored one after the other: nothing, one, one that has no place left, frames behind frames; and the ways of a place.
use mathlib.Core.Path.{◌≡◌, refl, sym, ap, ap₂, ◌∙◌}
use mathlib.Core.List.{List, [], ◌∷◌, ◌++◌, map}
use mathlib.Core.Logic.{◌⊎◌, inl, inr}
use native.Mathlib.Omega.{arith}
use lib.ListN.{length, set, take, length-append, length-map}
use lib.Seq.{sets, take-nil, take_all, take-append-le, take-append-add}
use Prim.Native.Nat.{ℕ, zero, suc, ◌+◌, ◌-◌, ◌≤◌, ◌<◌, min}
use Rattle.laws.proofs.Lists.{map-append}
use Rattle.laws.proofs.Laid.{sets_append}
use Rattle.laws.proofs.Orders.{le-or-lt}
use Rattle.rules.specs.Limits.{most_frames}
use Rattle.rules.specs.Frames.{Pair}
use Rattle.rules.specs.Direct.{Walk}
use Rattle.rules.proofs.Grid.{pair, cell}
use Rattle.frames.specs.Walk.{frame_at, task_of, release_of, deadline_of, stored, Stored, Derived}

-- ---- one number of each frame

module _ (number : Pair → ℕ) where
  none-stored : (old : List ℕ) (n : ℕ) → old ≡ stored number old n []
  unfolding stored
  none-stored old n = rw (take-nil {A = Pair} (most_frames - n))

  one-stored : (old : List ℕ) (n : ℕ) (f : Pair) → n < most_frames → set old n (number f) ≡ stored number old n (f ∷ [])
  unfolding stored
  one-stored old n f h =
      let e : most_frames - n ≡ suc (most_frames - suc n) = omega arith in
      rw (e, take-nil {A = Pair} (most_frames - suc n))

  full-stored : (old : List ℕ) (n : ℕ) (fs : List Pair) → most_frames ≤ n → old ≡ stored number old n fs
  unfolding stored
  full-stored old n fs h = let e : most_frames - n ≡ 0 = omega arith in rw e

  -- what has no place left changes nothing
  more_stored : (old : List ℕ) (n : ℕ) (fs gs : List Pair) → most_frames ≤ n + length fs → stored number old n (fs ++ gs) ≡ stored number old n fs
  unfolding stored
  more_stored old n fs gs h = rw (take-append-le (most_frames - n) fs gs (omega arith))

  behind-stored : (old : List ℕ) (n : ℕ) (fs gs : List Pair) → n + length fs < most_frames → stored number old n (fs ++ gs) ≡ stored number (stored number old n fs) (n + length fs) gs
  unfolding stored
  behind-stored old n fs gs h =
      let k : most_frames - n ≡ length fs + (most_frames - (n + length fs)) = omega arith in
      ap (λ (j : ℕ). sets old n (map number (take j (fs ++ gs)))) k
      ∙ ap (λ (l : List Pair). sets old n (map number l)) (take-append-add fs gs (most_frames - (n + length fs)))
      ∙ ap (sets old n) (map-append number fs (take (most_frames - (n + length fs)) gs))
      ∙ sets_append old n (map number fs) (map number (take (most_frames - (n + length fs)) gs))
      ∙ ap₂ (λ (l : List ℕ) (j : ℕ). sets l j (map number (take (most_frames - (n + length fs)) gs)))
      (ap (λ (l : List Pair). sets old n (map number l)) (sym (take_all (most_frames - n) fs (omega arith))))
      (ap (λ (j : ℕ). n + j) (length-map fs number))

  then_stored : (old : List ℕ) (n : ℕ) (fs gs : List Pair) → stored number old n (fs ++ gs) ≡ stored number (stored number old n fs) (min (suc most_frames) (n + length fs)) gs
  then_stored old n fs gs = which (le-or-lt most_frames (n + length fs))
    where
      which : (most_frames ≤ n + length fs) ⊎ (n + length fs < most_frames) → stored number old n (fs ++ gs) ≡ stored number (stored number old n fs) (min (suc most_frames) (n + length fs)) gs
      which (inl h) = more_stored old n fs gs h ∙ full-stored (stored number old n fs) (min (suc most_frames) (n + length fs)) gs (omega arith)
      which (inr h) = let e : min (suc most_frames) (n + length fs) ≡ n + length fs = omega arith in rw e (behind-stored old n fs gs h)

-- ---- three numbers of each frame, and the count

module _ (task release deadline : List ℕ) (n : ℕ) where
  pub stored-nothing : n ≤ suc most_frames → Stored task release deadline n [] task release deadline n
  stored-nothing h =
      record {
        tasks = none-stored task_of task n;
        releases = none-stored release_of release n;
        deadlines = none-stored deadline_of deadline n;
        count = omega arith;
      }

  pub stored_one : (f : Pair) → n < most_frames → Stored task release deadline n (f ∷ []) (set task n f.task) (set release n f.release) (set deadline n f.deadline) (n + 1)
  stored_one f h =
      record {
        tasks = one-stored task_of task n f h;
        releases = one-stored release_of release n f h;
        deadlines = one-stored deadline_of deadline n f h;
        count = omega arith;
      }

  pub stored-full : (f : Pair) → n ≡ most_frames → Stored task release deadline n (f ∷ []) task release deadline (n + 1)
  stored-full f h =
      record {
        tasks = full-stored task_of task n (f ∷ []) (omega arith);
        releases = full-stored release_of release n (f ∷ []) (omega arith);
        deadlines = full-stored deadline_of deadline n (f ∷ []) (omega arith);
        count = omega arith;
      }

-- frames behind frames
pub stored_then : {task₀ release₀ deadline₀ task release deadline task' release' deadline' : List ℕ} {n₀ n n' : ℕ} {fs gs : List Pair}
    → Stored task₀ release₀ deadline₀ n₀ fs task release deadline n → Stored task release deadline n gs task' release' deadline' n'
    → Stored task₀ release₀ deadline₀ n₀ (fs ++ gs) task' release' deadline' n'
stored_then {task₀} {release₀} {deadline₀} {n₀ = n₀} {n} {n'} {fs} {gs} a b =
    record {
      tasks = b.tasks ∙ ap₂ (λ (l : List ℕ) (k : ℕ). stored task_of l k gs) a.tasks a.count ∙ sym (then_stored task_of task₀ n₀ fs gs);
      releases = b.releases ∙ ap₂ (λ (l : List ℕ) (k : ℕ). stored release_of l k gs) a.releases a.count ∙ sym (then_stored release_of release₀ n₀ fs gs);
      deadlines = b.deadlines ∙ ap₂ (λ (l : List ℕ) (k : ℕ). stored deadline_of l k gs) a.deadlines a.count ∙ sym (then_stored deadline_of deadline₀ n₀ fs gs);
      count = let e : n ≡ min (suc most_frames) (n₀ + length fs) = a.count in let f : n' ≡ min (suc most_frames) (n + length gs) = b.count in rw (length-append fs gs) (omega arith);
    }

pub derived : {task₀ release₀ deadline₀ task release deadline : List ℕ} {n k : ℕ} {fs : List Pair} {w : Walk}
    → Stored task₀ release₀ deadline₀ 0 fs task release deadline n → n ≡ length fs → w.found ≡ fs → k ≡ w.steps → Derived task₀ release₀ deadline₀ w task release deadline n k
unfolding stored
derived a c e q = record { tasks = rw e a.tasks; releases = rw e a.releases; deadlines = rw e a.deadlines; count = rw e c; steps = q }

-- ---- the ways of a place

module _ (tasks releases deadlines : List ℕ) (t d b n : ℕ) where
  pub put-nothing : b ≡ 0 → n ≤ most_frames → Stored tasks releases deadlines n (frame_at t d b) tasks releases deadlines n
  unfolding frame_at
  put-nothing e h = rw e (stored-nothing tasks releases deadlines n (omega arith))

  pub put_full : (b ≡ 0 → ⊥) → n ≡ most_frames → Stored tasks releases deadlines n (frame_at t d b) tasks releases deadlines (n + 1)
  unfolding frame_at
  put_full h e = go b h
    where
      go : (b : ℕ) → (b ≡ 0 → ⊥) → Stored tasks releases deadlines n (cell t d b) tasks releases deadlines (n + 1)
      go zero h = absurd (h refl)
      go (suc r) h = stored-full tasks releases deadlines n (pair t r d) e

  pub put_one : (b ≡ 0 → ⊥) → (n ≡ most_frames → ⊥) → n ≤ most_frames
      → Stored tasks releases deadlines n (frame_at t d b) (set tasks n t) (set releases n (b - 1)) (set deadlines n d) (n + 1)
  unfolding frame_at
  put_one h e w = go b h
    where
      go : (b : ℕ) → (b ≡ 0 → ⊥) → Stored tasks releases deadlines n (cell t d b) (set tasks n t) (set releases n (b - 1)) (set deadlines n d) (n + 1)
      go zero h = absurd (h refl)
      go (suc r) h = let o : suc r - 1 ≡ r = omega arith in rw o (stored_one tasks releases deadlines n (pair t r d) (omega arith))
