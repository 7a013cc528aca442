-- Answers: what an accepted or refused step tells, in the form that a proof goes on with.
use mathlib.Core.Path.{◌≡◌, refl}
use mathlib.Core.Bool.{Bool, true, false}
use mathlib.Core.Option.{Option, none, some}
use native.Mathlib.Omega.{arith}
use Prim.Native.Nat.{ℕ, ◌+◌}
use Rattle.laws.specs.Res.{Res, ok, refuse, ◌>>=◌, ◌>>◌, unless, at, given}

module _ {A : Type 0} where
  pub refuse≢ok : {C : Type 0} {n p : ℕ} {a : A} → refuse n p ≡ ok a → C
  refuse≢ok e = let z : ◌≡◌ {A = ℕ} 0 1 = cc in absurd (omega arith)

  pub ok_injective : {a b : A} → ok a ≡ ok b → a ≡ b
  ok_injective e = cc

  pub refuse-number : {n m p q : ℕ} → ◌≡◌ {A = Res A} (refuse n p) (refuse m q) → n ≡ m
  refuse-number e = cc

  pub refuse-place : {n m p q : ℕ} → ◌≡◌ {A = Res A} (refuse n p) (refuse m q) → p ≡ q
  refuse-place e = cc

module _ {A B : Type 0} where
  -- ---- a step that was accepted, and what came behind it

  pub bind_case : {C : Type 0} {b : B} (m : Res A) (f : A → Res B) → ◌>>=◌ m f ≡ ok b → ((a : A) → m ≡ ok a → f a ≡ ok b → C) → C
  bind_case (ok a) f e k = k a refl e
  bind_case (refuse n p) f e k = refuse≢ok e

  pub then_case : {C : Type 0} {b : B} (m : Res A) (r : Res B) → ◌>>◌ m r ≡ ok b → ((a : A) → m ≡ ok a → r ≡ ok b → C) → C
  then_case (ok a) r e k = k a refl e
  then_case (refuse n p) r e k = refuse≢ok e

  -- ---- a refusal comes from the step or from behind it

  pub bind_refused : {C : Type 0} {n p : ℕ} (m : Res A) (f : A → Res B) → ◌>>=◌ m f ≡ refuse n p → (m ≡ refuse n p → C)
      → ((a : A) → m ≡ ok a → f a ≡ refuse n p → C) → C
  bind_refused (ok a) f e here behind = behind a refl e
  bind_refused {n = n} {p = p} (refuse m q) f e here behind = here (rw (refuse-number e, refuse-place e))

  pub then_refused : {C : Type 0} {n p : ℕ} (m : Res A) (r : Res B) → ◌>>◌ m r ≡ refuse n p → (m ≡ refuse n p → C)
      → ((a : A) → m ≡ ok a → r ≡ refuse n p → C) → C
  then_refused (ok a) r e here behind = behind a refl e
  then_refused {n = n} {p = p} (refuse m q) r e here behind = here (rw (refuse-number e, refuse-place e))

  -- ---- the other way: what the step says settles the whole

  pub bind_ok : {m : Res A} {a : A} (f : A → Res B) → m ≡ ok a → ◌>>=◌ m f ≡ f a
  bind_ok f e = rw e

  pub bind_refuse : {m : Res A} {n p : ℕ} (f : A → Res B) → m ≡ refuse n p → ◌>>=◌ m f ≡ refuse n p
  bind_refuse f e = rw e

  pub then_ok : {m : Res A} {a : A} (r : Res B) → m ≡ ok a → ◌>>◌ m r ≡ r
  then_ok r e = rw e

  pub then_refuse : {m : Res A} {n p : ℕ} (r : Res B) → m ≡ refuse n p → ◌>>◌ m r ≡ refuse n p
  then_refuse r e = rw e

-- ---- steps may be grouped either way

module _ {A B C : Type 0} where
  pub then_assoc : (m : Res A) (r : Res B) (s : Res C) → ◌>>◌ (◌>>◌ m r) s ≡ ◌>>◌ m (◌>>◌ r s)
  then_assoc (ok a) r s = refl
  then_assoc (refuse n p) r s = refl

-- ---- unless, at, given

pub unless-ok : (n p : ℕ) (b : Bool) {u : Unit {0}} → unless n p b ≡ ok u → b ≡ true
unless-ok n p true e = refl
unless-ok n p false e = refuse≢ok e

pub at_ok : (n k : ℕ) (o : Option ℕ) {u : Unit {0}} → at n k o ≡ ok u → o ≡ none
at_ok n k none e = refl
at_ok n k (some i) e = refuse≢ok e

pub at_none : (n k : ℕ) {o : Option ℕ} → o ≡ none → at n k o ≡ ok tt
at_none n k e = rw e

pub at_some : (n k : ℕ) {o : Option ℕ} {i : ℕ} → o ≡ some i → at n k o ≡ refuse n (k + i)
at_some n k e = rw e

module _ {A : Type 0} where
  pub given-some : (n p : ℕ) {o : Option A} {a : A} → o ≡ some a → given n p o ≡ ok a
  given-some n p e = rw e

  pub given-none : (n p : ℕ) {o : Option A} → o ≡ none → given n p o ≡ refuse n p
  given-none n p e = rw e
