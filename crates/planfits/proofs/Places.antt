-- Two tests of a list's elements: the first place at which one of them fails is the lesser of the first places at which each fails.
use Rattle.std.proofs.Common.{◌≡◌, refl, sym, ◌∙◌, Bool, true, false, ◌&&◌, ℕ, suc, List, [], ◌∷◌, length, arith}
use Rattle.std.proofs.Math.Option.{Option, none, some}
use native.Mathlib.Nat.{suc-min-suc}
use Prim.Native.Nat.{min}
use Rattle.laws.specs.Lists.{next, or_next, first_bad}

-- the place that was found, or n where there is none
abbrev pub place_or : ℕ → Option ℕ → ℕ
place_or n none = n
place_or n (some k) = k

place-next : (n : ℕ) (o : Option ℕ) → place_or (suc n) (next o) ≡ suc (place_or n o)
place-next n none = refl
place-next n (some k) = refl

module _ {A : Type 0} (p q both : A → Bool) (e : (x : A) → both x ≡ (p x && q x)) where
  lower : (a b : Bool) (n : ℕ) (o r s : Option ℕ) → place_or n o ≡ min (place_or n r) (place_or n s)
      → place_or (suc n) (or_next (a && b) o) ≡ min (place_or (suc n) (or_next a r)) (place_or (suc n) (or_next b s))
  lower true true n o r s h = rw (place-next n o, place-next n r, place-next n s, h) (sym (suc-min-suc (place_or n r) (place_or n s)))
  lower true false n o r s h = omega arith
  lower false b n o r s h = omega arith

  pub first_of_two : (l : List A) → place_or (length l) (first_bad both l) ≡ min (place_or (length l) (first_bad p l)) (place_or (length l) (first_bad q l))
  first_of_two [] = refl
  first_of_two (x ∷ l) =
      rw (e x) (lower (p x) (q x) (length l) (first_bad both l) (first_bad p l) (first_bad q l) (first_of_two l))
