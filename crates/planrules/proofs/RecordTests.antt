-- Refusals 3 and 4: the kinds whose bodies name nothing, and those that have no number with a range, pass their tests.
use mathlib.Core.Path.{◌≡◌, refl, sym, ◌∙◌}
use mathlib.Core.Bool.{Bool, true, false, ◌||◌}
use mathlib.Core.List.{List, [], ◌∷◌}
use lib.Dec.{eqb, ltb}
use borrow.Author.Tests.{ne_eqb, ltb-true, ltb-false}
use Prim.Native.Nat.{ℕ, ◌<◌}
use Rattle.laws.proofs.Lists.{true-false, and-true}
use Rattle.laws.proofs.Table.{below}
use Rattle.rules.specs.Records.{Field, names, ranges, free, kinds, is_bus, fields, decoded, record_of}
use Rattle.rules.specs.Plan.{bus_of, each_number, is_there, is_within, is_kind, is_bus_record, payloads_ordered, names_are_there, numbers_are_within}
use Rattle.rules.proofs.NamedAlike.{unlisted}
use Rattle.plan.specs.Memory.{bus_laid, bus_seen}
use Rattle.planrules.specs.Tests.{bus_is_within}

-- no number of the body names anything; none has a range
nameless : List Field → Bool
nameless [] = true
nameless (names k ∷ fs) = false
nameless (ranges w low high ∷ fs) = nameless fs
nameless (free w ∷ fs) = nameless fs

rangeless : List Field → Bool
rangeless [] = true
rangeless (names k ∷ fs) = rangeless fs
rangeless (ranges w low high ∷ fs) = false
rangeless (free w ∷ fs) = rangeless fs

nameless_passes : (counts : ℕ → ℕ) (fs : List Field) (ns : List ℕ) → nameless fs ≡ true → each_number (is_there counts) fs ns ≡ true
unfolding nameless
nameless_passes counts [] ns e = refl
nameless_passes counts (f ∷ fs) [] e = refl
nameless_passes counts (names k ∷ fs) (x ∷ xs) e = true-false (sym e)
nameless_passes counts (ranges w low high ∷ fs) (x ∷ xs) e = nameless_passes counts fs xs e
nameless_passes counts (free w ∷ fs) (x ∷ xs) e = nameless_passes counts fs xs e

rangeless_passes : (fs : List Field) (ns : List ℕ) → rangeless fs ≡ true → each_number is_within fs ns ≡ true
unfolding rangeless
rangeless_passes [] ns e = refl
rangeless_passes (f ∷ fs) [] e = refl
rangeless_passes (names k ∷ fs) (x ∷ xs) e = rangeless_passes fs xs e
rangeless_passes (ranges w low high ∷ fs) (x ∷ xs) e = true-false (sym e)
rangeless_passes (free w ∷ fs) (x ∷ xs) e = rangeless_passes fs xs e

-- the kinds that have names, and those that have ranges
has_names : ℕ → Bool
has_names k = eqb k 3 || (eqb k 4 || (eqb k 5 || (eqb k 6 || eqb k 7)))

has_ranges : ℕ → Bool
has_ranges k = is_bus k || (eqb k 4 || (eqb k 5 || eqb k 6))

named : (k : ℕ) → k < 21 → (nameless (fields k) || has_names k) ≡ true
unfolding nameless has_names fields kinds
named = below (λ k. nameless (fields k) || has_names k) 21 refl

ranged : (k : ℕ) → k < 21 → (rangeless (fields k) || has_ranges k) ≡ true
unfolding rangeless has_ranges is_bus fields kinds
ranged = below (λ k. rangeless (fields k) || has_ranges k) 21 refl

left-true : (a b : Bool) → (a || b) ≡ true → b ≡ false → a ≡ true
left-true true b e f = refl
left-true false b e f = true-false (sym e ∙ f)

module _ (kind : ℕ) (b : List ℕ) where
  namesless_if : (c : Bool) → ltb kind 21 ≡ c → has_names kind ≡ false → nameless (fields kind) ≡ true
  unfolding nameless
  namesless_if true e h = left-true (nameless (fields kind)) (has_names kind) (named kind (ltb-true kind 21 e)) h
  namesless_if false e h = rw (unlisted kind (ltb-false kind 21 e))

  rangesless_if : (c : Bool) → ltb kind 21 ≡ c → has_ranges kind ≡ false → rangeless (fields kind) ≡ true
  unfolding rangeless
  rangesless_if true e h = left-true (rangeless (fields kind)) (has_ranges kind) (ranged kind (ltb-true kind 21 e)) h
  rangesless_if false e h = rw (unlisted kind (ltb-false kind 21 e))

  pub no_names : (counts : ℕ → ℕ) → (kind ≡ 3 → ⊥) → (kind ≡ 4 → ⊥) → (kind ≡ 5 → ⊥) → (kind ≡ 6 → ⊥) → (kind ≡ 7 → ⊥)
      → names_are_there counts (record_of kind b) ≡ true
  unfolding names_are_there record_of has_names
  no_names counts h3 h4 h5 h6 h7 =
      nameless_passes counts (fields kind) (decoded (fields kind) b)
      (namesless_if (ltb kind 21) refl (rw (ne_eqb kind 3 h3, ne_eqb kind 4 h4, ne_eqb kind 5 h5, ne_eqb kind 6 h6, ne_eqb kind 7 h7)))

  no-bus : (kind ≡ 1 → ⊥) → (kind ≡ 9 → ⊥) → is_bus kind ≡ false
  unfolding is_bus
  no-bus h1 h9 = rw (ne_eqb kind 1 h1, ne_eqb kind 9 h9)

  pub no_ranges : (kind ≡ 1 → ⊥) → (kind ≡ 4 → ⊥) → (kind ≡ 5 → ⊥) → (kind ≡ 6 → ⊥) → (kind ≡ 9 → ⊥) → numbers_are_within (record_of kind b) ≡ true
  unfolding numbers_are_within payloads_ordered is_bus_record record_of has_ranges
  no_ranges h1 h4 h5 h6 h9 =
      rw (
        no-bus h1 h9,
        rangeless_passes (fields kind) (decoded (fields kind) b)
            (rangesless_if (ltb kind 21) refl (rw (no-bus h1 h9, ne_eqb kind 4 h4, ne_eqb kind 5 h5, ne_eqb kind 6 h6))),
      )

-- ---- a bus, judged as it stands in memory

pub plain-within : (body : List ℕ) → bus_is_within (bus_seen (bus_laid (bus_of (record_of 1 body)))) ≡ numbers_are_within (record_of 1 body)
unfolding bus_is_within bus_seen bus_laid bus_of is_kind numbers_are_within payloads_ordered is_bus_record is_bus record_of fields kinds
plain-within body = refl

pub framed_within : (body : List ℕ) → bus_is_within (bus_seen (bus_laid (bus_of (record_of 9 body)))) ≡ numbers_are_within (record_of 9 body)
unfolding bus_is_within bus_seen bus_laid bus_of is_kind numbers_are_within payloads_ordered is_bus_record is_bus record_of fields kinds
framed_within body = simp and-true
