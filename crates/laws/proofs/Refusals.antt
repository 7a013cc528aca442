-- Which numbers a row of steps can give as refusals, and at which places.
use mathlib.Core.Path.{◌≡◌, refl, sym}
use mathlib.Core.Bool.{Bool, true, false}
use mathlib.Core.Option.{Option, none, some}
use native.Mathlib.Omega.{arith}
use Prim.Native.Nat.{ℕ, suc, ◌+◌, ◌≤◌}
use Rattle.laws.specs.Res.{Res, ok, refuse, ◌>>=◌, ◌>>◌, unless, at}
use Rattle.laws.specs.Lists.{first_bad, up_to}
use Rattle.laws.proofs.Loops.{first_bad-up_to-within}
use Rattle.laws.proofs.Res.{refuse≢ok, refuse-number, refuse-place, bind_refused, then_refused}

-- every refusal has a number from low to high
pub record Gives (low high : ℕ) {A : Type 0} (m : Res A) : Type 0 where
  pub number : (n p : ℕ) → m ≡ refuse n p → (low ≤ n) × (n ≤ high)

module _ {low high : ℕ} where
  pub gives-ok : {A : Type 0} (a : A) → Gives low high (ok a)
  gives-ok a = record { number = λ n p e. refuse≢ok (sym e) }

  pub gives-refuse : {A : Type 0} (m q : ℕ) → low ≤ m → m ≤ high → Gives low high {A = A} (refuse m q)
  gives-refuse m q h k = record { number = λ n p e. let s = refuse-number e in (omega (arith, s), omega (arith, s)) }

  pub gives-unless : (m q : ℕ) (b : Bool) → low ≤ m → m ≤ high → Gives low high (unless m q b)
  gives-unless m q true h k = gives-ok tt
  gives-unless m q false h k = gives-refuse m q h k

  pub gives_at : (m q : ℕ) (o : Option ℕ) → low ≤ m → m ≤ high → Gives low high (at m q o)
  gives_at m q none h k = gives-ok tt
  gives_at m q (some i) h k = gives-refuse m _ h k

  module _ {A B : Type 0} where
    pub gives_then : {m : Res A} {r : Res B} → Gives low high m → Gives low high r → Gives low high (◌>>◌ m r)
    gives_then {m} {r} s t = record { number = λ n p e. then_refused m r e (s.number n p) (λ a _ f. t.number n p f) }

    pub gives_bind : {m : Res A} {f : A → Res B} → Gives low high m → ((a : A) → Gives low high (f a)) → Gives low high (◌>>=◌ m f)
    gives_bind {m} {f} s t = record { number = λ n p e. bind_refused m f e (s.number n p) (λ a _ g. (t a).number n p g) }

-- one range of numbers within another
pub gives-within : {low high l h : ℕ} {A : Type 0} {m : Res A} → low ≤ l → h ≤ high → Gives l h m → Gives low high m
gives-within a b g = record { number = λ n p e. let w = g.number n p e in (omega (arith, w.0), omega (arith, w.1)) }

-- ---- at which places

-- every refusal's place is at most `high`
pub record PlacesTo (high : ℕ) {A : Type 0} (m : Res A) : Type 0 where
  pub place : (n p : ℕ) → m ≡ refuse n p → p ≤ high

module _ {high : ℕ} where
  pub places-unless : (m q : ℕ) (b : Bool) → q ≤ high → PlacesTo high (unless m q b)
  places-unless m q true h = record { place = λ n p e. refuse≢ok (sym e) }
  places-unless m q false h = record { place = λ n p e. omega (arith, refuse-place e) }

  found_below : (m q count n p : ℕ) (test : ℕ → Bool) → q + count ≤ suc high → (o : Option ℕ) → first_bad test (up_to count) ≡ o → at m q o ≡ refuse n p
      → p ≤ high
  found_below m q count n p test h none f e = refuse≢ok (sym e)
  found_below m q count n p test h (some i) f e = omega (arith, refuse-place e, first_bad-up_to-within test count i f)

  pub places-at : (m q count : ℕ) (test : ℕ → Bool) → q + count ≤ suc high → PlacesTo high (at m q (first_bad test (up_to count)))
  places-at m q count test h =
      record { place = λ n p e. found_below m q count n p test h (first_bad test (up_to count)) refl e }

  pub places_then : {A B : Type 0} {m : Res A} {r : Res B} → PlacesTo high m → PlacesTo high r → PlacesTo high (◌>>◌ m r)
  places_then {m = m} {r = r} s t = record { place = λ n p e. then_refused m r e (s.place n p) (λ a _ f. t.place n p f) }
