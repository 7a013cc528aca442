-- Heads: the two kinds of a table's head, as data. They have the same numbers, stand at the front alone, and behind either stand rows or the
-- end; the first byte of a table says which of the two it is.
use mathlib.Core.Path.{◌≡◌, refl}
use mathlib.Core.Bool.{Bool, true, false, ◌&&◌, ◌||◌}
use mathlib.Core.List.{List, ◌∷◌}
use mathlib.Core.Logic.{◌⊎◌, inl, inr}
use native.Mathlib.Omega.{arith}
use lib.Dec.{eqb, leb}
use Prim.Native.Nat.{ℕ}
use Rattle.laws.proofs.Tests.{Tests, by_or, by_eq}
use Rattle.rules.specs.Records.{kinds, fields, head_fields, known, head_kind, is_head, table_follows, Rec}
use Rattle.rules.specs.Obeys.{MayStand}
use Rattle.rules.specs.Checker.{is_head_record, head_of, is_for_consumers}

pub data IsHead : ℕ → Type 0 where
  basic_head : IsHead 16
  consumers_head : IsHead 20

pub head-of : (consumers : Bool) → IsHead (head_kind consumers)
unfolding head_kind
head-of false = basic_head
head-of true = consumers_head

pub head_means : (kind : ℕ) → Tests (is_head kind) (IsHead kind)
unfolding is_head head_kind
head_means kind = record { says = λ e. either ((by_or (by_eq kind 16) (by_eq kind 20)).says e); passes = λ h. known-head h }
  where
    either : (kind ≡ 16) ⊎ (kind ≡ 20) → IsHead kind
    either (inl q) = rw q basic_head
    either (inr q) = rw q consumers_head

    known-head : {kind : ℕ} → IsHead kind → is_head kind ≡ true
    known-head basic_head = refl
    known-head consumers_head = refl

pub head-fields : {head : ℕ} → IsHead head → fields head ≡ head_fields
unfolding fields kinds
head-fields basic_head = refl
head-fields consumers_head = refl

pub head_first : {head : ℕ} → IsHead head → MayStand table_follows 0 head
unfolding known kinds table_follows is_head head_kind
head_first basic_head = record { is_known = refl; is_next = refl }
head_first consumers_head = record { is_known = refl; is_next = refl }

pub not_the_end : {head : ℕ} → IsHead head → head ≡ 0 → ⊥
not_the_end basic_head e = absurd (omega (arith, e))
not_the_end consumers_head e = absurd (omega (arith, e))

-- what stands behind either: a row or the end
pub behind-head : {head : ℕ} → IsHead head → (kind : ℕ) → table_follows head kind ≡ (eqb kind 0 || (leb 17 kind && leb kind 18))
unfolding table_follows is_head head_kind
behind-head basic_head kind = refl
behind-head consumers_head kind = refl

-- no head is a row
pub no-row : {head : ℕ} → IsHead head → (eqb head 17 ≡ false) × (eqb head 18 ≡ false)
no-row basic_head = (refl, refl)
no-row consumers_head = (refl, refl)

-- the head in front is the one that is read
pub head_read : {head : ℕ} → IsHead head → (numbers : List ℕ) (rs : List Rec) → head_of (record { kind = head; numbers = numbers } ∷ rs) ≡ numbers
unfolding head_of is_head_record is_head head_kind
head_read basic_head numbers rs = refl
head_read consumers_head numbers rs = refl

-- ---- the edition of a table

pub edition-of : (consumers : Bool) (rest : List ℕ) → is_for_consumers (head_kind consumers ∷ rest) ≡ consumers
unfolding is_for_consumers head_kind
edition-of false rest = refl
edition-of true rest = refl
