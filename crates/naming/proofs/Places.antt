-- Places of arrays: stores that ask nothing of the place, the first place that passes, scans whose tests agree, marks.
use mathlib.Core.Path.{◌≡◌, refl, sym, ap, ◌∙◌}
use mathlib.Core.Bool.{Bool, true, false, cond, ◌||◌}
use mathlib.Core.List.{List}
use mathlib.Core.Option.{none}
use native.Mathlib.Nat.{add-zero, add-suc, suc-add}
use native.Mathlib.Numerals.{add-one}
use native.Mathlib.Omega.{arith}
use lib.Dec.{eqb, ltb}
use lib.ListN.{length, get_or, set, length-replicate, length-set, get_or-replicate}
use lib.Seq.{get_or-set_same, get_or-set_other}
use borrow.Author.Tests.{lt-ltb, le-ltb, eqb-true, eqb-false}
use Prim.Native.Nat.{ℕ, zero, suc, ◌+◌, ◌-◌, ◌≤◌, ◌<◌}
use Rattle.rules.specs.Limits.{most_frames}
use Rattle.laws.specs.Lists.{any, first_bad, tab, up_to}
use Rattle.laws.proofs.Lists.{any-up_to_more}
use Rattle.laws.proofs.Loops.{first_bad-up_to_hit}
use Rattle.std.specs.Prelude.{Some, None}
use Rattle.naming.specs.Places.{place_from, marks, is_new, spread, before_in}
use Rattle.places.specs.Spot.{spot_of}

-- ---- the first place that passes

module _ (p : ℕ → Bool) where
  pub place_hit : (low n k : ℕ) → low ≤ k → k < low + n → p k ≡ true → ((j : ℕ) → low ≤ j → j < k → p j ≡ false) → place_from p low n ≡ k
  place_hit low zero k l w e h = absurd (omega arith)
  place_hit low (suc n) k l w e h =
      here (eqb low k) refl (λ v u. place_hit (suc low) n k v u e (λ j v u. h j (omega arith) u))
    where
      here : (b : Bool) → eqb low k ≡ b → (suc low ≤ k → k < suc low + n → place_from p (suc low) n ≡ k) → cond (p low) low (place_from p (suc low) n) ≡ k
      here true q later = let s : low ≡ k = eqb-true low k q in rw (ap p s ∙ e) s
      here false q later =
          let d : low < k = omega (arith, eqb-false low k q) in
          rw (h low (omega arith) d) (later d (omega arith))

  pub place_none : (low n : ℕ) → ((j : ℕ) → low ≤ j → j < low + n → p j ≡ false) → place_from p low n ≡ low + n
  place_none low zero h = sym (add-zero low)
  place_none low (suc n) h =
      rw (h low (omega arith) (omega arith))
      (place_none (suc low) n (λ j v u. h j (omega arith) (omega arith)) ∙ suc-add low n ∙ sym (add-suc low n))

  -- where it is one of the places, it passes
  pub place-passes : (low n : ℕ) → place_from p low n < low + n → p (place_from p low n) ≡ true
  place-passes low zero h = absurd (omega arith)
  place-passes low (suc n) h = here (p low) refl h (place-passes (suc low) n)
    where
      here : (b : Bool) → p low ≡ b → cond b low (place_from p (suc low) n) < low + suc n
          → (place_from p (suc low) n < suc low + n → p (place_from p (suc low) n) ≡ true)
          → p (cond b low (place_from p (suc low) n)) ≡ true
      here true q v later = q
      here false q v later = later (omega arith)

  -- one of them passes
  pub any_place : {A : Type 0} (test : A → Bool) (f : ℕ → A) → ((k : ℕ) → test (f k) ≡ p k) → (low n : ℕ)
      → any test (tab f low n) ≡ ltb (place_from p low n) (low + n)
  any_place test f same low zero = sym (le-ltb low (low + 0) (omega arith))
  any_place test f same low (suc n) = rw (same low) (here (p low) (any_place test f same (suc low) n))
    where
      here : (b : Bool) → any test (tab f (suc low) n) ≡ ltb (place_from p (suc low) n) (suc low + n)
          → (b || any test (tab f (suc low) n)) ≡ ltb (cond b low (place_from p (suc low) n)) (low + suc n)
      here true later = sym (lt-ltb low (low + suc n) (omega arith))
      here false later = later ∙ ap (ltb (place_from p (suc low) n)) (suc-add low n ∙ sym (add-suc low n))

-- ---- the number before a place

pub before_at : (a : List ℕ) (d k : ℕ) → (k ≡ 0 → ⊥) → get_or a (k - 1) 0 ≡ before_in a d k
before_at a d zero n = absurd (n refl)
before_at a d (suc k) n = let e : suc k - 1 ≡ k = omega arith in rw e

-- ---- scans

module _ (p : ℕ → Bool) {n k : ℕ} (before : first_bad p (up_to k) ≡ none) where
  pub scan_hit : k < n → p k ≡ false → Some k ≡ spot_of (first_bad p (up_to n))
  scan_hit h e = sym (ap spot_of (first_bad-up_to_hit p n k h before e))

  pub scan_end : n ≤ k → k ≤ n → None ≡ spot_of (first_bad p (up_to n))
  scan_end h w = let e : k ≡ n = omega arith in sym (ap (λ (i : ℕ). spot_of (first_bad p (up_to i))) (sym e) ∙ ap spot_of before)

-- ---- marks

-- the row names the frame of this number
unfoldable pub names : List ℕ → ℕ → ℕ → Bool
names numbers f j = eqb (get_or numbers j 0) f

module _ (numbers : List ℕ) where
  length-marks : (k : ℕ) → length (marks numbers k) ≡ most_frames
  length-marks zero = length-replicate most_frames false
  length-marks (suc k) = length-set (marks numbers k) (get_or numbers k 0) true ∙ length-marks k

  pub marked : (k f : ℕ) → f < most_frames → get_or (marks numbers k) f false ≡ any (names numbers f) (up_to k)
  unfolding names
  marked zero f h = get_or-replicate most_frames f false false h
  marked (suc k) f h =
      here (eqb (get_or numbers k 0) f) refl (marked k f h)
      ∙ sym (ap (λ (n : ℕ). any (names numbers f) (up_to n)) (sym (add-one k)) ∙ any-up_to_more (names numbers f) k)
    where
      or-true : (b : Bool) → (b || true) ≡ true
      or-true true = refl
      or-true false = refl

      or-false : (b : Bool) → (b || false) ≡ b
      or-false true = refl
      or-false false = refl

      here : (b : Bool) → eqb (get_or numbers k 0) f ≡ b → get_or (marks numbers k) f false ≡ any (names numbers f) (up_to k)
          → get_or (set (marks numbers k) (get_or numbers k 0) true) f false ≡ (any (names numbers f) (up_to k) || eqb (get_or numbers k 0) f)
      here true e before =
          let s : get_or numbers k 0 ≡ f = eqb-true (get_or numbers k 0) f e in
          rw (e, s, or-true (any (names numbers f) (up_to k))) (get_or-set_same (marks numbers k) f true false (rw (length-marks k) h))
      here false e before =
          rw (e, or-false (any (names numbers f) (up_to k)))
          (get_or-set_other (marks numbers k) (get_or numbers k 0) f true false (λ s. eqb-false (get_or numbers k 0) f e (sym s)) ∙ before)

-- ---- one row more

module _ (numbers : List ℕ) (frames k : ℕ) where
  pub new-past : frames ≤ get_or numbers k 0 → is_new numbers frames k ≡ false
  unfolding is_new
  new-past h = rw (le-ltb (get_or numbers k 0) frames h)

  module _ {named : List Bool} (e : named ≡ marks numbers k) where
    pub new-again : get_or numbers k 0 < frames → get_or named (get_or numbers k 0) false ≡ true → is_new numbers frames k ≡ false
    unfolding is_new
    new-again h q = rw (lt-ltb (get_or numbers k 0) frames h, sym e, q)

    pub new-first : get_or numbers k 0 < frames → get_or named (get_or numbers k 0) false ≡ false → is_new numbers frames k ≡ true
    unfolding is_new
    new-first h q = rw (lt-ltb (get_or numbers k 0) frames h, sym e, q)

    pub marks_more : set named (get_or numbers k 0) true ≡ marks numbers (k + 1)
    marks_more = rw (add-one k, e)

module _ (numbers starts : List ℕ) (k : ℕ) {out : List ℕ} (e : out ≡ spread numbers starts k) where
  pub spread_more : get_or numbers k 0 < most_frames → set out (get_or numbers k 0) (get_or starts k 0) ≡ spread numbers starts (k + 1)
  spread_more h = rw (add-one k, lt-ltb (get_or numbers k 0) most_frames h, e)

  pub spread-past : most_frames ≤ get_or numbers k 0 → out ≡ spread numbers starts (k + 1)
  spread-past h = rw (add-one k, le-ltb (get_or numbers k 0) most_frames h, e)
