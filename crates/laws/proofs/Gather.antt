-- Parts of lists: a front part cut again, a part behind a front part.
use mathlib.Core.Path.{◌≡◌, refl, ap}
use mathlib.Core.List.{List, [], ◌∷◌}
use native.Mathlib.Nat.{zero-add, suc-add}
use lib.ListN.{length, take, drop}
use lib.Seq.{take-nil}
use Prim.Native.Nat.{ℕ, zero, suc, ◌+◌}

module _ {A : Type 0} where
  pub drop-take : (n m : ℕ) (l : List A) → drop n (take (n + m) l) ≡ take m (drop n l)
  drop-take zero m l = rw (zero-add m)
  drop-take (suc n) m [] = rw (take-nil {A = A} (suc n + m), take-nil {A = A} m)
  drop-take (suc n) m (x ∷ l) = rw (suc-add n m) (drop-take n m l)

  -- as many elements as a front part has are that front part
  pub take_again : (n : ℕ) (l : List A) → take (length (take n l)) l ≡ take n l
  take_again zero l = refl
  take_again (suc n) [] = refl
  take_again (suc n) (x ∷ l) = ap (λ (r : List A). x ∷ r) (take_again n l)
