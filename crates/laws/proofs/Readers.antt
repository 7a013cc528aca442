-- Multiples of one number that are read with another: from a multiple of T on the first one that a multiple of U lies in or not yet a T
-- behind; and the least number of a list, and of a row.
use mathlib.Core.Path.{◌≡◌, refl, sym}
use mathlib.Core.List.{List, [], ◌∷◌, foldr, Memᴰ, ◌++◌}
use mathlib.Core.Bool.{cond}
use mathlib.Core.Logic.{◌⊎◌, inl, inr}
use native.Mathlib.Nat.{eq-or-lt_of_le, le_trans, dvd-mul_left, dvd-sub, le_of_dvd, div-mul_cancel, mul-le-mul_right, lt-div-mul-add}
use native.Mathlib.Omega.{arith}
use borrow.Author.Tests.{ne_eqb}
use lib.Dec.{eqb}
use lib.ListN.{length}
use Prim.Native.Nat.{ℕ, ◌+◌, ◌*◌, ◌-◌, ◌/◌, ◌≤◌, ◌<◌, ◌∣◌, min, zero-le, suc-le-suc}
use Rattle.laws.specs.Lists.{tab}
use Rattle.laws.specs.Numbers.{ceil, up, down, least}
use Rattle.laws.proofs.Lists.{length-tab}
use Rattle.laws.proofs.Orders.{le-or-lt}
use Rattle.laws.proofs.Members.{All, empty, also, all-tab, member_tab}
use Rattle.laws.proofs.Divisors.{ceil-least, up-enough, up_tight, down-multiple, down-below, down-greatest}
use Rattle.laws.proofs.Bus.{up_rises}

-- ---- roundings

pub up_multiple : (r x : ℕ) → r ∣ up r x
unfolding up
up_multiple r x = dvd-mul_left r (ceil x r)

pub up_least : (r x m : ℕ) → r ∣ m → x ≤ m → up r x ≤ m
unfolding up
up_least r x m d h =
    let e : m / r * r ≡ m = div-mul_cancel r d in
    let l : ceil x r * r ≤ m / r * r = mul-le-mul_right r (ceil-least x r (m / r) (rw e h)) in
    omega arith

pub down_tight : (r x : ℕ) → 0 < r → x < down r x + r
unfolding down
down_tight r x h = lt-div-mul-add h

-- two multiples of a number are as far apart
pub apart : (r x y : ℕ) → r ∣ x → r ∣ y → x < y → r + x ≤ y
apart r x y a b l =
    let h : r ≤ y - x = le_of_dvd (omega arith) (dvd-sub r b a) in
    omega arith

-- so one that is less than that behind another is not behind it
pub not_behind : (r x y : ℕ) → r ∣ x → r ∣ y → x < y + r → x ≤ y
not_behind r x y a b l = which (le-or-lt x y)
  where
    which : (x ≤ y) ⊎ (y < x) → x ≤ y
    which (inl h) = h
    which (inr h) = let k : r + y ≤ x = apart r y x b a h in absurd (omega arith)

-- ---- the first multiple of T from a on with a multiple of U less than T behind it, or at it

module _ (T U a : ℕ) (t : 0 < T) (u : 0 < U) (m : T ∣ a) where
  abbrev first : ℕ
  first = down T (up U a)

  pub first-reached : a ≤ first
  first-reached = down-greatest T (up U a) a m (up-enough U a u)

  pub first_read : up U first < first + T
  first_read =
      let l : up U first ≤ up U a = up_least U first (up U a) (up_multiple U a) (down-below T (up U a)) in
      let k : up U a < first + T = down_tight T (up U a) t in
      omega arith

  pub first-least : (x : ℕ) → T ∣ x → a ≤ x → up U x < x + T → first ≤ x
  first-least x d h l =
      let k : up U a ≤ up U x = up_rises U a x h in
      let b : first ≤ up U a = down-below T (up U a) in
      not_behind T first x (down-multiple T (up U a)) d (omega arith)

  -- where U is not above T every multiple of T is such a one
  pub first-here : U ≤ T → first ≡ a
  first-here h =
      let l : up U a < a + T = up_close in
      let k : first ≤ a = first-least a m (omega arith) l in
      let r : a ≤ first = first-reached in
      omega arith
    where
      up_close : up U a < a + T
      up_close = let l : up U a < a + U = up_tight U a u in omega arith

-- ---- the least number of a list

foldr-min-start : (x : ℕ) (l : List ℕ) → foldr min x l ≤ x
foldr-min-start x [] = omega arith
foldr-min-start x (y ∷ l) = let h : foldr min x l ≤ x = foldr-min-start x l in omega arith

foldr-min-below : (x : ℕ) {y : ℕ} {l : List ℕ} → Memᴰ y l → foldr min x l ≤ y
foldr-min-below x (Memᴰ.head e) = omega (arith, e)
foldr-min-below x (Memᴰ.tail m) = omega (arith, foldr-min-below x m)

pub least-below : {x : ℕ} {l : List ℕ} → Memᴰ x l → least l ≤ x
least-below (Memᴰ.head {x = y} {xs = l} e) = rw e (foldr-min-start y l)
least-below (Memᴰ.tail {x = y} m) = foldr-min-below y m

min-has : (P : ℕ → Type 0) (x y : ℕ) → P x → P y → P (min x y)
min-has P x y p q = which (le-or-lt x y)
  where
    which : (x ≤ y) ⊎ (y < x) → P (min x y)
    which (inl h) = let e : min x y ≡ x = omega arith in rw e p
    which (inr h) = let e : min x y ≡ y = omega arith in rw e q

-- what holds of all of a list that is not empty holds of the least
foldr-min-has : {P : ℕ → Type 0} (x : ℕ) {l : List ℕ} → P x → All P l → P (foldr min x l)
foldr-min-has x p empty = p
foldr-min-has {P} x p (also {x = y} {l = l} q a) = min-has P y (foldr min x l) q (foldr-min-has x p a)

pub least-has : {P : ℕ → Type 0} {l : List ℕ} → 0 < length l → All P l → P (least l)
least-has h empty = absurd (omega arith)
least-has {P} h (also {x = x} p a) = foldr-min-has {P = P} x p a

-- ---- the least of the first numbers of a row

pub record IsLeast (f : ℕ → ℕ) (n x : ℕ) : Type 0 where
  pub place : ℕ
  pub within : place < n
  pub is : f place ≡ x
  pub under : (k : ℕ) → k < n → x ≤ f k

module _ (f : ℕ → ℕ) where
  pub least_first : {x : ℕ} → x ≡ f 0 → IsLeast f 1 x
  least_first {x} e =
      record {
        place = 0;
        within = omega arith;
        is = sym e;
        under = λ k h. (let z : k ≡ 0 = omega arith in rw (z, e) (omega arith));
      }

  pub least_more : {n x : ℕ} → IsLeast f n x → IsLeast f (n + 1) (min x (f n))
  least_more {n} {x} l = which (le-or-lt x (f n))
    where
      under : (y : ℕ) → y ≤ x → y ≤ f n → (k : ℕ) → k < n + 1 → y ≤ f k
      under y a b k h = here (eq-or-lt_of_le (omega arith))
        where
          here : (k ≡ n) ⊎ (k < n) → y ≤ f k
          here (inl e) = rw e b
          here (inr w) = le_trans a (l.under k w)

      which : (x ≤ f n) ⊎ (f n < x) → IsLeast f (n + 1) (min x (f n))
      which (inl h) =
          let e : min x (f n) ≡ x = omega arith in
          rw e (record { place = l.place; within = omega (arith, l.within); is = l.is; under = under x (omega arith) h })
      which (inr h) =
          let e : min x (f n) ≡ f n = omega arith in
          rw e (record { place = n; within = omega arith; is = refl; under = under (f n) (omega arith) (omega arith) })

  -- what none of more numbers is below is the least of these too
  pub least_of_more : {n m x : ℕ} → IsLeast f n x → n ≤ m → ((k : ℕ) → k < m → x ≤ f k) → IsLeast f m x
  least_of_more l h under = record { place = l.place; within = omega (arith, l.within); is = l.is; under = under }

  pub least-is : {n x : ℕ} → IsLeast f n x → least (tab f 0 n) ≡ x
  least-is {n} {x} l =
      let a : least (tab f 0 n) ≤ f l.place = least-below (member_tab f 0 n l.place (omega arith) (omega (arith, l.within))) in
      let b : x ≤ least (tab f 0 n)
      = least-has {P = λ y. x ≤ y} (rw (length-tab f 0 n) (omega (arith, l.within))) (all-tab f 0 n (λ k u v. l.under k (omega arith))) in
      omega (arith, l.is)

-- one number more, behind numbers above 0
foldr-min_snoc : (x d : ℕ) (l : List ℕ) → foldr min x (l ++ (d ∷ [])) ≡ min (foldr min x l) d
foldr-min_snoc x d [] = omega arith
foldr-min_snoc x d (y ∷ l) = omega (arith, foldr-min_snoc x d l)

pub least_snoc : (l : List ℕ) (d : ℕ) → All (λ x. 0 < x) l → least (l ++ (d ∷ [])) ≡ cond (eqb (least l) 0) d (min (least l) d)
least_snoc [] d a = refl
least_snoc (x ∷ l) d a =
    let h : 0 < least (x ∷ l) = least-has {P = λ n. 0 < n} (suc-le-suc zero-le) a in
    rw (ne_eqb (least (x ∷ l)) 0 (λ e. omega arith)) (foldr-min_snoc x d l)
