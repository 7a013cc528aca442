-- What the library's searches find, each element seen as the rules' thing.
use Rattle.std.proofs.Common.{◌≡◌, refl, ap, ◌∙◌, Bool, true, false, cond, not, ◌||◌, ℕ, ◌+◌, List, [], ◌∷◌, map, zero-add, arith}
use Rattle.std.specs.Prelude.{Option, None, Some}
use Rattle.std.specs.List.{list_any, position, position_from}
use Rattle.std.proofs.lemmas.Iterator.Adapters.{position_from-zero}
use Rattle.std.proofs.Math.Option as definitions
use Rattle.std.proofs.Math.Option.{none, some}
use Rattle.laws.specs.Lists.{any, or_next, next, first_bad}
use Rattle.places.specs.Spot.{spot_of}

-- a place counted on from i
onward : ℕ → definitions.Option ℕ → Option ℕ
onward i none = None
onward i (some k) = Some (i + k)

onward-next : (i : ℕ) (o : definitions.Option ℕ) → onward (i + 1) o ≡ onward i (next o)
unfolding onward
onward-next i none = refl
onward-next i (some k) = ap Some (omega arith)

onward-zero : (o : definitions.Option ℕ) → onward 0 o ≡ spot_of o
unfolding onward
onward-zero none = refl
onward-zero (some k) = ap Some (zero-add k)

module _ {A B : Type 0} (p : B → Bool) (f : A → B) where
  pub any_seen : (l : List A) → list_any (λ x. p (f x)) l ≡ any p (map f l)
  any_seen [] = refl
  any_seen (x ∷ l) = ap (λ (b : Bool). p (f x) || b) (any_seen l)

  step : (b : Bool) (i : ℕ) (r : Option ℕ) (o : definitions.Option ℕ) → r ≡ onward (i + 1) o → cond (not b) (Some i) r ≡ onward i (or_next b o)
  unfolding onward
  step true i r o e = e ∙ onward-next i o
  step false i r o e = ap Some (omega arith)

  bad-from : (i : ℕ) (l : List A) → position_from (λ x. not (p (f x))) i l ≡ onward i (first_bad p (map f l))
  unfolding onward
  bad-from i [] = refl
  bad-from i (x ∷ l) = step (p (f x)) i (position_from (λ y. not (p (f y))) (i + 1) l) (first_bad p (map f l)) (bad-from (i + 1) l)

  pub bad_seen : (l : List A) → position (λ x. not (p (f x))) l ≡ spot_of (first_bad p (map f l))
  bad_seen l = position_from-zero (λ x. not (p (f x))) l ∙ bad-from 0 l ∙ onward-zero (first_bad p (map f l))
