-- A test and what it means, both ways at once; and a step that is accepted exactly when something holds. With these the checker is
-- shown exact in one line for each rule.
use mathlib.Core.Path.{◌≡◌, refl, sym, subst}
use mathlib.Core.Bool.{Bool, true, false, cond, not, ◌&&◌, ◌||◌}
use mathlib.Core.Logic.{◌⊎◌, inl, inr}
use mathlib.Core.List.Memᴰ
use mathlib.Core.List.{List, [], ◌∷◌, Memᴰ}
use native.Mathlib.Nat.{mod-eq-zero_of_dvd, dvd_of_mod-eq-zero}
use borrow.Author.Tests.{leb-true, ltb-true, eqb-true, le-leb, lt-ltb, eq-eqb}
use lib.Dec.{leb, ltb, eqb}
use lib.ListN.{length, get_or, take}
use lib.Seq.{length-take-le, get_or-take}
use Prim.Native.Nat.{ℕ, ◌≤◌, ◌<◌, ◌%◌, ◌∣◌}
use Rattle.laws.specs.Lists.{keep, any, all, is_fresh, up_to}
use Rattle.laws.specs.Numbers.{divides}
use Rattle.laws.specs.Res.{Res, ok}
use Rattle.laws.proofs.Lists.{true-false, both_left, both_right, any_hit, any-true, all-each, all_true, all-up_to-each, all-up_to-true, any-up_to_hit, any-up_to-true, all_keep}
use Rattle.laws.proofs.Members.{any_member, any-among}

pub record Tests (b : Bool) (P : Type 0) : Type 0 where
  pub says : b ≡ true → P
  pub passes : P → b ≡ true

-- a test that means P means whatever P means
pub by_iff : {b : Bool} {P Q : Type 0} → Tests b P → (P → Q) → (Q → P) → Tests b Q
by_iff t f g = record { says = λ e. f (t.says e); passes = λ q. t.passes (g q) }

-- a test means that it passes
pub by_itself : (b : Bool) → Tests b (b ≡ true)
by_itself b = record { says = λ e. e; passes = λ e. e }

-- two tests that mean the same are the same
pub by_same : {b c : Bool} {P Q : Type 0} → Tests b P → Tests c Q → (P → Q) → (Q → P) → b ≡ c
by_same {b} {c} {P} {Q} s t f g = go b c s t
  where
    go : (b c : Bool) → Tests b P → Tests c Q → b ≡ c
    go true c s t = sym (t.passes (f (s.says refl)))
    go false true s t = s.passes (g (t.says refl))
    go false false s t = refl

pub by_le : (a b : ℕ) → Tests (leb a b) (a ≤ b)
by_le a b = record { says = leb-true a b; passes = le-leb a b }

pub by_lt : (a b : ℕ) → Tests (ltb a b) (a < b)
by_lt a b = record { says = ltb-true a b; passes = lt-ltb a b }

pub by_eq : (a b : ℕ) → Tests (eqb a b) (a ≡ b)
by_eq a b = record { says = eqb-true a b; passes = eq-eqb a b }

pub by_divides : (a b : ℕ) → Tests (divides a b) (a ∣ b)
by_divides a b = by_iff (by_eq (b % a) 0) (dvd_of_mod-eq-zero a) (mod-eq-zero_of_dvd a)

module _ {P Q : Type 0} where
  pub by_and : {b c : Bool} → Tests b P → Tests c Q → Tests (b && c) (P × Q)
  by_and {b} {c} s t =
      record { says = λ e. (s.says (both_left b c e), t.says (both_right b c e)); passes = λ h. rw (s.passes h.0, t.passes h.1) }

  pub by_or : {b c : Bool} → Tests b P → Tests c Q → Tests (b || c) (P ⊎ Q)
  by_or {b} {c} s t = record { says = said b s; passes = passed b s }
    where
      said : (b : Bool) → Tests b P → (b || c) ≡ true → P ⊎ Q
      said true s e = inl (s.says refl)
      said false s e = inr (t.says e)

      passed : (b : Bool) → Tests b P → P ⊎ Q → (b || c) ≡ true
      passed true s h = refl
      passed false s (inl h) = true-false (sym (s.passes h))
      passed false s (inr h) = t.passes h

  -- a test that is asked only where another passes
  pub by_where : {b c : Bool} → Tests b P → Tests c Q → Tests (cond b c true) (P → Q)
  by_where {b} {c} s t = record { says = said b s; passes = passed b s }
    where
      said : (b : Bool) → Tests b P → cond b c true ≡ true → P → Q
      said true s e h = t.says e
      said false s e h = true-false (sym (s.passes h))

      passed : (b : Bool) → Tests b P → (P → Q) → cond b c true ≡ true
      passed true s h = t.passes (h (s.says refl))
      passed false s h = refl

  pub by_implies : {b c : Bool} → Tests b P → Tests c Q → Tests (not b || c) (P → Q)
  by_implies {b} {c} s t = record { says = said b s; passes = passed b s }
    where
      said : (b : Bool) → Tests b P → (not b || c) ≡ true → P → Q
      said true s e h = t.says e
      said false s e h = true-false (sym (s.passes h))

      passed : (b : Bool) → Tests b P → (P → Q) → (not b || c) ≡ true
      passed true s h = t.passes (h (s.says refl))
      passed false s h = refl

pub by_not : {b : Bool} {P : Type 0} → Tests b P → Tests (not b) (P → ⊥)
by_not {b} {P} t = record { says = said b t; passes = passed b t }
  where
    said : (b : Bool) → Tests b P → not b ≡ true → P → ⊥
    said true t e h = true-false (sym e)
    said false t e h = true-false (sym (t.passes h))

    passed : (b : Bool) → Tests b P → (P → ⊥) → not b ≡ true
    passed true t h = absurd (h (t.says refl))
    passed false t h = refl

-- ---- over the places of a list, over the numbers below n

module _ {A : Type 0} {P : ℕ → Type 0} (p : A → Bool) (l : List A) (d : A) where
  pub by_any : ((k : ℕ) → k < length l → Tests (p (get_or l k d)) (P k)) → Tests (any p l) ((k : ℕ) × (k < length l) × P k)
  by_any t =
      record {
        says = λ e. let f = any-true p l d e in (f.0, f.1, (t f.0 f.1).says f.2);
        passes = λ h. any_hit p l h.0 d h.1 ((t h.0 h.1).passes h.2);
      }

  pub by_all : ((k : ℕ) → k < length l → Tests (p (get_or l k d)) (P k)) → Tests (all p l) ((k : ℕ) → k < length l → P k)
  by_all t = record { says = λ e k w. (t k w).says (all_true p l d k e w); passes = λ h. all-each p l d (λ k w. (t k w).passes (h k w)) }

-- that no earlier element is like the k-th
pub by_fresh : {A : Type 0} {P : ℕ → Type 0} (like : A → A → Bool) (d : A) (l : List A) (k : ℕ) → k ≤ length l
    → ((j : ℕ) → j < k → Tests (like (get_or l k d) (get_or l j d)) (P j)) → Tests (is_fresh like d l k) ((j : ℕ) → j < k → P j → ⊥)
by_fresh like d l k w t =
    let cut : length (take k l) ≡ k = length-take-le k l w in
    by_iff
    (by_not (by_any (like (get_or l k d)) (take k l) d (λ j v. rw (get_or-take k l j d (rw cut at v)) (t j (rw cut at v)))))
    (λ h j v a. h (j, rw cut v, a))
    (λ h q. h q.0 (rw cut at q.1) q.2)

-- ---- over the members of a list

module _ {A : Type 0} {P : A → Type 0} (p : A → Bool) where
  at_each : {x : A} {l : List A} → P x → ((y : A) → Memᴰ y l → P y) → (y : A) → Memᴰ y (x ∷ l) → P y
  at_each here later y (Memᴰ.head e) = subst P (sym e) here
  at_each here later y (Memᴰ.tail m) = later y m

  pub by_each : (l : List A) → ((x : A) → Tests (p x) (P x)) → Tests (all p l) ((x : A) → Memᴰ x l → P x)
  by_each [] t = record { says = λ e x m. absurd (Memᴰ.not-nil m); passes = λ h. refl }
  by_each (x ∷ l) t =
      by_iff (by_and (t x) (by_each l t)) (λ h. at_each h.0 h.1)
      (λ h. (h x (Memᴰ.head refl), λ y m. h y (Memᴰ.tail m)))

  pub by_some : (l : List A) → ((x : A) → Tests (p x) (P x)) → Tests (any p l) ((x : A) × Memᴰ x l × P x)
  by_some l t =
      record {
        says = λ e. let f = any_member p l e in (f.one, f.among, (t f.one).says f.passes);
        passes = λ h. any-among p h.1 ((t h.0).passes h.2);
      }

-- the elements that were kept, by their places in the whole list
pub by_all-keep : {A : Type 0} {P Q : ℕ → Type 0} (q r : A → Bool) (l : List A) (d : A)
    → ((k : ℕ) → k < length l → Tests (q (get_or l k d)) (P k))
    → ((k : ℕ) → k < length l → Tests (r (get_or l k d)) (Q k)) → Tests (all r (keep q l)) ((k : ℕ) → k < length l → P k → Q k)
by_all-keep q r l d s t = rw (all_keep q r l) (by_all (λ x. cond (q x) (r x) true) l d (λ k w. by_where (s k w) (t k w)))

module _ {P : ℕ → Type 0} (p : ℕ → Bool) (n : ℕ) where
  pub by_any-up_to : ((k : ℕ) → k < n → Tests (p k) (P k)) → Tests (any p (up_to n)) ((k : ℕ) × (k < n) × P k)
  by_any-up_to t =
      record {
        says = λ e. let f = any-up_to-true p n e in (f.0, f.1, (t f.0 f.1).says f.2);
        passes = λ h. any-up_to_hit p n h.0 h.1 ((t h.0 h.1).passes h.2);
      }

  pub by_all-up_to : ((k : ℕ) → k < n → Tests (p k) (P k)) → Tests (all p (up_to n)) ((k : ℕ) → k < n → P k)
  by_all-up_to t =
      record { says = λ e k w. (t k w).says (all-up_to-true p n k e w); passes = λ h. all-up_to-each p n (λ k w. (t k w).passes (h k w)) }

pub by_all-keep-up_to : {P Q : ℕ → Type 0} (q r : ℕ → Bool) (n : ℕ) → ((k : ℕ) → k < n → Tests (q k) (P k))
    → ((k : ℕ) → k < n → Tests (r k) (Q k)) → Tests (all r (keep q (up_to n))) ((k : ℕ) → k < n → P k → Q k)
by_all-keep-up_to q r n s t =
    rw (all_keep q r (up_to n)) (by_all-up_to (λ k. cond (q k) (r k) true) n (λ k w. by_where (s k w) (t k w)))

-- ---- accepted exactly when

pub record Oks (m : Res (Unit {0})) (P : Type 0) : Type 0 where
  pub says : m ≡ ok tt → P
  pub passes : P → m ≡ ok tt
