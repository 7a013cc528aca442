-- The front of a list that is as long as another front of it.
use mathlib.Core.Path.{◌≡◌, refl, ap, ◌∙◌}
use mathlib.Core.List.{List, [], ◌∷◌, map}
use lib.ListN.{length, take, length-map}
use Prim.Native.Nat.{ℕ, zero, suc}

module _ {A : Type 0} where
  front_long : (n : ℕ) (l : List A) → take (length (take n l)) l ≡ take n l
  front_long zero l = refl
  front_long (suc n) [] = refl
  front_long (suc n) (x ∷ l) = ap (λ (r : List A). x ∷ r) (front_long n l)

  pub front-seen : {B : Type 0} (see : A → B) (n k : ℕ) (l : List A) → k ≡ length (map see (take n l)) → map see (take k l) ≡ map see (take n l)
  front-seen see n k l e = ap (λ (m : ℕ). map see (take m l)) (e ∙ length-map (take n l) see) ∙ ap (map see) (front_long n l)
