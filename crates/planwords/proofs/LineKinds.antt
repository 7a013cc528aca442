-- The kinds that a plan's lines have, and of each: its first word says it, and the numbers of its line are those of its body. By the kinds, one
-- by one.
use mathlib.Core.Path.{◌≡◌, refl, sym, subst}
use mathlib.Core.Bool.{true, false, not}
use mathlib.Core.List.{List, [], ◌∷◌}
use mathlib.Core.Logic.{◌⊎◌, inl, inr}
use native.Mathlib.Nat.{eq-or-lt_of_le}
use native.Mathlib.Omega.{arith}
use borrow.Author.Tests.{eqb-true, eqb-false, ne_eqb, not-true}
use lib.Dec.{eqb}
use lib.ListN.{length}
use Prim.Native.Nat.{ℕ, ◌^◌, ◌≤◌, ◌<◌}
use Rattle.laws.proofs.Lists.{both_left, both_right}
use Rattle.laws.proofs.Tests.{by_or, by_and, by_eq, by_le}
use Rattle.rules.specs.Records.{kinds, fields, known, is_bus, plan_follows}
use Rattle.rules.specs.Obeys.{MayStand}
use Rattle.rules.proofs.TableBytes.{Fit, fit_none, fit}
use Rattle.text.specs.Lines.{behind_word, is_word}
use Rattle.planwords.specs.declared.Item.{Item}
use Rattle.planwords.specs.declared.Item.TheVariants.{Word, Number}
use Rattle.planwords.specs.declared.Name.{Name}
use Rattle.planwords.specs.Items.{spelled, forms, form_of, first_of, items_of}
use Rattle.planwords.specs.TextPlan.{kind_by, may_come}

pub data PlanKind : ℕ → Type 0 where
  a_bus : PlanKind 1
  node_count : PlanKind 2
  a_module : PlanKind 3
  a_mode : PlanKind 4
  a_task : PlanKind 5
  a_run : PlanKind 6
  a_connection : PlanKind 7
  framed_bus : PlanKind 9

bus-kind : (kind : ℕ) → is_bus kind ≡ true → PlanKind kind
unfolding is_bus
bus-kind kind e = go ((by_or (by_eq kind 1) (by_eq kind 9)).says e)
  where
    go : (kind ≡ 1) ⊎ (kind ≡ 9) → PlanKind kind
    go (inl q) = subst PlanKind (sym q) a_bus
    go (inr q) = subst PlanKind (sym q) framed_bus

thing-kind : (kind : ℕ) → 3 ≤ kind → kind ≤ 7 → PlanKind kind
thing-kind kind low high = third (eq-or-lt_of_le low)
  where
    seventh : (6 ≡ kind) ⊎ (6 < kind) → PlanKind kind
    seventh (inl q) = subst PlanKind q a_run
    seventh (inr q) = let e : 7 ≡ kind = omega arith in subst PlanKind e a_connection

    sixth : (5 ≡ kind) ⊎ (5 < kind) → PlanKind kind
    sixth (inl q) = subst PlanKind q a_task
    sixth (inr q) = seventh (eq-or-lt_of_le q)

    fourth : (4 ≡ kind) ⊎ (4 < kind) → PlanKind kind
    fourth (inl q) = subst PlanKind q a_mode
    fourth (inr q) = sixth (eq-or-lt_of_le q)

    third : (3 ≡ kind) ⊎ (3 < kind) → PlanKind kind
    third (inl q) = subst PlanKind q a_module
    third (inr q) = fourth (eq-or-lt_of_le q)

-- a kind that may stand in a plan, but for the end
pub plan-kind : (previous kind : ℕ) → plan_follows previous kind ≡ true → (kind ≡ 0 → ⊥) → PlanKind kind
unfolding plan_follows
plan-kind previous kind e z = first (eqb previous 0) (is_bus previous) refl refl
  where
    first : (a b : _) → eqb previous 0 ≡ a → is_bus previous ≡ b → PlanKind kind
    first true b p q = bus-kind kind (rw p at e)
    first false true p q =
        let two : kind ≡ 2 = eqb-true kind 2 (rw (p, q) at e) in
        subst PlanKind (sym two) node_count
    first false false p q = go ((by_or (by_eq kind 0) (by_and (by_le 3 kind) (by_and (by_le previous kind) (by_le kind 7)))).says (rw (p, q) at e))
      where
        go : (kind ≡ 0) ⊎ ((3 ≤ kind) × ((previous ≤ kind) × (kind ≤ 7))) → PlanKind kind
        go (inl w) = absurd (z w)
        go (inr w) = thing-kind kind w.0 w.1.1

-- a line may come where its record may stand
pub may-come : (previous kind : ℕ) → MayStand plan_follows previous kind → (kind ≡ 0 → ⊥) → may_come previous kind ≡ true
unfolding may_come
may-come previous kind s z = rw (ne_eqb kind 0 z, s.is_next)

pub known-kind : {kind : ℕ} → PlanKind kind → known kind ≡ true
unfolding known kinds
known-kind a_bus = refl
known-kind node_count = refl
known-kind a_module = refl
known-kind a_mode = refl
known-kind a_task = refl
known-kind a_run = refl
known-kind a_connection = refl
known-kind framed_bus = refl

pub may-stand : (previous kind : ℕ) → may_come previous kind ≡ true → MayStand plan_follows previous kind × (kind ≡ 0 → ⊥)
unfolding may_come
may-stand previous kind e =
    let some : not (eqb kind 0) ≡ true = both_left (not (eqb kind 0)) (plan_follows previous kind) e in
    let next : plan_follows previous kind ≡ true = both_right (not (eqb kind 0)) (plan_follows previous kind) e in
    let other : kind ≡ 0 → ⊥ = eqb-false kind 0 (not-true (eqb kind 0) some) in
    (record { is_known = known-kind (plan-kind previous kind next other); is_next = next }, other)

-- the first word and how many follow it say the kind
pub kind-said : {kind : ℕ} → PlanKind kind → kind_by (spelled (first_of kind)) (length (items_of kind)) ≡ kind
unfolding kind_by spelled first_of items_of form_of forms is_word behind_word
kind-said a_bus = refl
kind-said node_count = refl
kind-said a_module = refl
kind-said a_mode = refl
kind-said a_task = refl
kind-said a_run = refl
kind-said a_connection = refl
kind-said framed_bus = refl

-- ---- the numbers

-- numbers that a line's items take
pub data Fits : List Item → List ℕ → Type 0 where
  fits-none : Fits [] []
  fits_word : {name : Name} {items : List Item} {ns : List ℕ} → Fits items ns → Fits (Word name ∷ items) ns
  fits-number : {wide columns n : ℕ} {items : List Item} {ns : List ℕ} → n < 256 ^ wide → Fits items ns → Fits (Number wide columns ∷ items) (n ∷ ns)

-- are those that its body takes
pub fits-items : {kind : ℕ} → PlanKind kind → {ns : List ℕ} → Fit (fields kind) ns → Fits (items_of kind) ns
unfolding fields kinds items_of form_of forms
fits-items a_bus (fit a (fit b (fit c (fit d (fit e (fit f fit_none)))))) =
    fits_word (fits-number a (fits_word (fits-number b (fits_word (fits-number c (fits_word (fits-number d (fits_word (fits-number e
    (fits_word (fits-number f fits-none)))))))))))
fits-items node_count (fit a fit_none) = fits-number a fits-none
fits-items a_module (fit a fit_none) = fits_word (fits_word (fits-number a fits-none))
fits-items a_mode (fit a (fit b (fit c fit_none))) =
    fits_word (fits_word (fits-number a (fits_word (fits-number b (fits_word (fits-number c fits-none))))))
fits-items a_task (fit a (fit b (fit c fit_none))) =
    fits_word (fits_word (fits-number a (fits_word (fits-number b (fits_word (fits-number c fits-none))))))
fits-items a_run (fit a (fit b (fit c fit_none))) =
    fits_word (fits_word (fits-number a (fits_word (fits-number b (fits_word (fits-number c fits-none))))))
fits-items a_connection (fit a (fit b fit_none)) = fits_word (fits-number a (fits_word (fits_word (fits-number b fits-none))))
fits-items framed_bus (fit a (fit b (fit c (fit d (fit e (fit f (fit g fit_none))))))) =
    fits_word (fits-number a (fits_word (fits-number b (fits_word (fits-number c (fits_word (fits-number d (fits_word (fits-number e
    (fits_word (fits-number f (fits_word (fits-number g fits-none)))))))))))))

pub fits-fields : {kind : ℕ} → PlanKind kind → {ns : List ℕ} → Fits (items_of kind) ns → Fit (fields kind) ns
unfolding fields kinds items_of form_of forms
fits-fields a_bus
    (fits_word (fits-number a (fits_word (fits-number b (fits_word (fits-number c (fits_word (fits-number d (fits_word (fits-number e
    (fits_word (fits-number f fits-none)))))))))))) =
    fit a (fit b (fit c (fit d (fit e (fit f fit_none)))))
fits-fields node_count (fits-number a fits-none) = fit a fit_none
fits-fields a_module (fits_word (fits_word (fits-number a fits-none))) = fit a fit_none
fits-fields a_mode (fits_word (fits_word (fits-number a (fits_word (fits-number b (fits_word (fits-number c fits-none))))))) =
    fit a (fit b (fit c fit_none))
fits-fields a_task (fits_word (fits_word (fits-number a (fits_word (fits-number b (fits_word (fits-number c fits-none))))))) =
    fit a (fit b (fit c fit_none))
fits-fields a_run (fits_word (fits_word (fits-number a (fits_word (fits-number b (fits_word (fits-number c fits-none))))))) =
    fit a (fit b (fit c fit_none))
fits-fields a_connection (fits_word (fits-number a (fits_word (fits_word (fits-number b fits-none))))) = fit a (fit b fit_none)
fits-fields framed_bus
    (fits_word (fits-number a (fits_word (fits-number b (fits_word (fits-number c (fits_word (fits-number d (fits_word (fits-number e
    (fits_word (fits-number f (fits_word (fits-number g fits-none)))))))))))))) =
    fit a (fit b (fit c (fit d (fit e (fit f (fit g fit_none))))))
