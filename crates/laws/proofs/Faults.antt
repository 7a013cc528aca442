-- A `do` block of tests in order gives exactly the first fault of the rules that the tests mean.
use mathlib.Core.Path.{◌≡◌, refl, sym, ◌∙◌}
use mathlib.Core.Bool.{Bool, true, false}
use mathlib.Core.List.{List, [], ◌∷◌, ◌++◌}
use mathlib.Core.Option.{Option, none, some}
use mathlib.Core.Logic.{inl, inr}
use native.Mathlib.Nat.{not-suc-le-zero, le_of_suc-le-suc, add-zero}
use native.Mathlib.Omega.{arith}
use lib.ListN.{length, get_or, take}
use Prim.Native.Nat.{ℕ, zero, suc, ◌+◌, ◌<◌}
use Rattle.laws.specs.Lists.{first_bad, up_to}
use Rattle.laws.specs.Res.{Res, ok, refuse, ◌>>◌, unless, at}
use Rattle.laws.specs.Faults.{Rule, once, IsKept, BreaksAt, AllKept, FirstFault, CountUp}
use Rattle.laws.proofs.Lists.{true-false}
use Rattle.laws.proofs.Loops.{
  first_bad-up_to-none,
  first_bad-up_to-some,
  first_bad-up_to-passes,
  first_bad-up_to-within,
  first_bad-up_to-fails,
  first_bad-up_to-before,
  first_bad-places,
}
use Rattle.laws.proofs.Res.{
  refuse≢ok,
  refuse-number,
  refuse-place,
  then_case,
  then_refused,
  then_ok,
  then_refuse,
  at_ok,
  at_none,
  at_some,
  unless-ok,
}
use Rattle.laws.proofs.Tests.{Tests}

-- accepted exactly when every rule is kept; refused with n at p exactly when that is the first fault
pub record Exact (m : Res (Unit {0})) (rs : List Rule) : Type 0 where
  pub says : m ≡ ok tt → AllKept rs
  pub passes : AllKept rs → m ≡ ok tt
  pub refuses : (n p : ℕ) → m ≡ refuse n p → FirstFault rs n p
  pub refused : (n p : ℕ) → FirstFault rs n p → m ≡ refuse n p

-- a failed test and its fact
pub by_failed : {b : Bool} {P : Type 0} → Tests b P → b ≡ false → P → ⊥
by_failed t e h = true-false (sym (t.passes h) ∙ e)

pub by_fails : {b : Bool} {P : Type 0} → Tests b P → (P → ⊥) → b ≡ false
by_fails {b} {P} t h = go b t
  where
    go : (b : Bool) → Tests b P → b ≡ false
    go true t = absurd (h (t.says refl))
    go false t = refl

-- ---- one rule

only_one : (r : Rule) (n p : ℕ) → FirstFault (r ∷ []) n p → BreaksAt r n p
only_one r n p (inl b) = b
only_one r n p (inr h) = absurd h.1

at-refused : (number first : ℕ) (o : Option ℕ) (n p : ℕ) → at number first o ≡ refuse n p
    → (k : ℕ) × (o ≡ some k) × (number ≡ n) × (first + k ≡ p)
at-refused number first none n p e = refuse≢ok (sym e)
at-refused number first (some k) n p e = (k, refl, refuse-number e, refuse-place e)

module _ (r : Rule) (test : ℕ → Bool) (means : (k : ℕ) → k < r.places → Tests (test k) (r.asks k)) where
  abbrev found : Option ℕ
  found = first_bad test (up_to r.places)

  kept-all : IsKept r → found ≡ none
  kept-all h = first_bad-up_to-none test r.places (λ k w. (means k w).passes (h.each k w))

  broken-at : (n p : ℕ) → (k : ℕ) × (found ≡ some k) × (r.number ≡ n) × (r.first + k ≡ p) → BreaksAt r n p
  broken-at n p t =
      let w = first_bad-up_to-within test r.places t.0 t.1 in
      record {
        place = t.0;
        within = w;
        lowest = λ j h. (means j (omega arith)).says (first_bad-up_to-before test r.places t.0 j t.1 h);
        broken = by_failed (means t.0 w) (first_bad-up_to-fails test r.places t.0 t.1);
        its_number = t.2;
        its_record = t.3;
      }

  breaks : (n p : ℕ) → BreaksAt r n p → at r.number r.first found ≡ refuse n p
  breaks n p b =
      at_some r.number r.first
      (first_bad-up_to-some test r.places b.place b.within
      (by_fails (means b.place b.within) b.broken)
      (λ j h. let w : j < r.places = omega (arith, b.within) in (means j w).passes (b.lowest j h)))
      ∙ rw (b.its_number, b.its_record)

  pub exact_rule : Exact (at r.number r.first found) (r ∷ [])
  exact_rule =
      record {
        says = λ e. (record { each = λ k w. (means k w).says (first_bad-up_to-passes test r.places k (at_ok r.number r.first found e) w) }, tt);
        passes = λ h. at_none r.number r.first (kept-all h.0);
        refuses = λ n p e. inl (broken-at n p (at-refused r.number r.first found n p e));
        refused = λ n p f. breaks n p (only_one r n p f);
      }

-- a rule asked of each element of a list
pub exact_list : {A : Type 0} (number first : ℕ) (asks : ℕ → Type 0) (l : List A) (d : A) (test : A → Bool)
    → ((k : ℕ) → k < length l → Tests (test (get_or l k d)) (asks k))
    → Exact (at number first (first_bad test l)) (record { number = number; first = first; places = length l; asks = asks } ∷ [])
exact_list number first asks l d test means =
    rw (first_bad-places test l d)
    (exact_rule (record { number = number; first = first; places = length l; asks = asks }) (λ k. test (get_or l k d)) means)

-- a rule with one place, asked by one test
pub unless-refused : (number place : ℕ) (b : Bool) (n p : ℕ) → unless number place b ≡ refuse n p → (b ≡ false) × (number ≡ n) × (place ≡ p)
unless-refused number place true n p e = refuse≢ok (sym e)
unless-refused number place false n p e = (refl, refuse-number e, refuse-place e)

module _ (number place : ℕ) {b : Bool} {P : Type 0} (means : Tests b P) where
  once_breaks : (n p : ℕ) → (b ≡ false) × (number ≡ n) × (place ≡ p) → BreaksAt (once number place P) n p
  once_breaks n p t =
      record {
        place = 0;
        within = omega arith;
        lowest = λ j h. absurd (not-suc-le-zero h);
        broken = by_failed means t.0;
        its_number = t.1;
        its_record = add-zero place ∙ t.2;
      }

  once-broken : (n p : ℕ) → BreaksAt (once number place P) n p → unless number place b ≡ refuse n p
  once-broken n p f =
      let first : f.place ≡ 0 = omega (arith, f.within) in
      let here : place ≡ p = omega (arith, f.its_record) in
      rw (by_fails means f.broken, f.its_number, here)

  pub exact_once : Exact (unless number place b) (once number place P ∷ [])
  exact_once =
      record {
        says = λ e. (record { each = λ k w. means.says (unless-ok number place b e) }, tt);
        passes = λ h. rw (means.passes (h.0.each 0 (omega arith)));
        refuses = λ n p e. inl (once_breaks n p (unless-refused number place b n p e));
        refused = λ n p f. once-broken n p (only_one (once number place P) n p f);
      }

-- ---- rules in order, then others, which may lean on them

module _ (ss : List Rule) where
  kept_join : (rs : List Rule) → AllKept rs → AllKept ss → AllKept (rs ++ ss)
  kept_join [] h k = k
  kept_join (r ∷ rs) h k = (h.0, kept_join rs h.1 k)

  kept-first : (rs : List Rule) → AllKept (rs ++ ss) → AllKept rs
  kept-first [] h = tt
  kept-first (r ∷ rs) h = (h.0, kept-first rs h.1)

  kept-rest : (rs : List Rule) → AllKept (rs ++ ss) → AllKept ss
  kept-rest [] h = h
  kept-rest (r ∷ rs) h = kept-rest rs h.1

  module _ (n p : ℕ) where
    fault_first : (rs : List Rule) → FirstFault rs n p → FirstFault (rs ++ ss) n p
    fault_first [] f = absurd f
    fault_first (r ∷ rs) (inl b) = inl b
    fault_first (r ∷ rs) (inr h) = inr (h.0, fault_first rs h.1)

    fault_rest : (rs : List Rule) → AllKept rs → FirstFault ss n p → FirstFault (rs ++ ss) n p
    fault_rest [] h f = f
    fault_rest (r ∷ rs) h f = inr (h.0, fault_rest rs h.1 f)

    fault_split : {C : Type 0} (rs : List Rule) → FirstFault (rs ++ ss) n p → (FirstFault rs n p → C) → (AllKept rs → FirstFault ss n p → C) → C
    fault_split [] f first rest = rest tt f
    fault_split (r ∷ rs) (inl b) first rest = first (inl b)
    fault_split (r ∷ rs) (inr h) first rest = fault_split rs h.1 (λ f. first (inr (h.0, f))) (λ k f. rest (h.0, k) f)

module _ {m rest : Res (Unit {0})} (rs : List Rule) {ss : List Rule} (first : Exact m rs) (others : AllKept rs → Exact rest ss) where
  pub exact_join : Exact (◌>>◌ m rest) (rs ++ ss)
  exact_join =
      record {
        says = λ e. then_case m rest e (λ u a b. let h = first.says a in kept_join ss rs h ((others h).says b));
        passes = λ h. let k = kept-first ss rs h in then_ok rest (first.passes k) ∙ (others k).passes (kept-rest ss rs h);
        refuses =
            λ n p e. then_refused m rest e (λ a. fault_first ss n p rs (first.refuses n p a))
            (λ u a b. let h = first.says a in fault_rest ss n p rs h ((others h).refuses n p b));
        refused =
            λ n p f. fault_split ss n p rs f (λ a. then_refuse rest (first.refused n p a))
            (λ h a. then_ok rest (first.passes h) ∙ (others h).refused n p a);
      }

pub exact_then : {m rest : Res (Unit {0})} {r : Rule} {rs : List Rule} → Exact m (r ∷ []) → (IsKept r → Exact rest rs) → Exact (◌>>◌ m rest) (r ∷ rs)
exact_then {r = r} first others = exact_join (r ∷ []) first (λ h. others h.0)

-- ---- a rule's number is given exactly where it is the first that is broken

later_fault : (n m p : ℕ) (rs : List Rule) → CountUp n rs → m < n → FirstFault rs m p → ⊥
later_fault n m p [] c h f = f
later_fault n m p (r ∷ rs) c h (inl b) = absurd (omega (arith, b.its_number, c.0))
later_fault n m p (r ∷ rs) c h (inr k) = later_fault (suc n) m p rs c.1 (omega arith) k.1

module _ (d : Rule) where
  pub fault_of_rule : (n i p : ℕ) (rs : List Rule) → CountUp n rs → i < length rs → FirstFault rs (n + i) p
      → AllKept (take i rs) × BreaksAt (get_or rs i d) (n + i) p
  fault_of_rule n i p [] c w f = absurd f
  fault_of_rule n zero p (r ∷ rs) c w (inl b) = (tt, b)
  fault_of_rule n zero p (r ∷ rs) c w (inr k) = absurd (later_fault (suc n) (n + 0) p rs c.1 (omega arith) k.1)
  fault_of_rule n (suc i) p (r ∷ rs) c w (inl b) = absurd (omega (arith, b.its_number, c.0))
  fault_of_rule n (suc i) p (r ∷ rs) c w (inr k) =
      let e : suc n + i ≡ n + suc i = omega arith in
      let rest = fault_of_rule (suc n) i p rs c.1 (le_of_suc-le-suc w) (rw e k.1) in
      ((k.0, rest.0), rw (← e) rest.1)

  pub rule_of_fault : (n i p : ℕ) (rs : List Rule) → i < length rs → AllKept (take i rs) × BreaksAt (get_or rs i d) (n + i) p
      → FirstFault rs (n + i) p
  rule_of_fault n i p [] w h = absurd (not-suc-le-zero w)
  rule_of_fault n zero p (r ∷ rs) w h = inl h.1
  rule_of_fault n (suc i) p (r ∷ rs) w h =
      let e : suc n + i ≡ n + suc i = omega arith in
      inr (h.0.0, rw (← e) (rule_of_fault (suc n) i p rs (le_of_suc-le-suc w) (h.0.1, rw e h.1)))
