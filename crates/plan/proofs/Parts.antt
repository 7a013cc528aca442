-- The front part of an array, each element seen as the rules' thing: its length, and what stands in it.
use mathlib.Core.Path.{◌≡◌, refl, sym, ◌∙◌, ap}
use mathlib.Core.Bool.{Bool, true, false}
use mathlib.Core.List.{List, map}
use lib.Dec.{ltb}
use borrow.Author.Tests.{ltb-true, ltb-false}
use lib.ListN.{length, get_or, take, length-take, length-map, get_or-map, get_or-eq_default}
use lib.Seq.{get_or-take}
use native.Mathlib.Omega.{arith}
use Rattle.laws.proofs.Gather.{take_again}
use Prim.Native.Nat.{ℕ, ◌<◌, ◌≤◌, min}

module _ {A B : Type 0} (f : A → B) (n : ℕ) (l : List A) where
  pub part_length : (m : ℕ) → length l ≡ m → length (map f (take n l)) ≡ min n m
  part_length m e = rw (length-map (take n l) f, length-take n l, e)

  pub part-at : (k : ℕ) (d : A) → k < length (map f (take n l)) → get_or (map f (take n l)) k (f d) ≡ f (get_or l k d)
  part-at k d h =
      let w : k < min n (length l) = rw (part_length (length l) refl) at h in
      get_or-map f (take n l) k d ∙ ap f (get_or-take n l k d (omega arith))

  -- as many elements as are seen are those that are seen
  pub part_again : map f (take (length (map f (take n l))) l) ≡ map f (take n l)
  part_again = rw (length-map (take n l) f, take_again n l)

  pub part_behind : (k : ℕ) (z : B) → length (map f (take n l)) ≤ k → get_or (map f (take n l)) k z ≡ z
  part_behind k z h = get_or-eq_default (map f (take n l)) z h

-- The front part of an array as the code looks it up: the element that is seen, laid again; the zero thing behind the end.
module _ {A B : Type 0} (seen : A → B) (laid : B → A) (back : (x : A) → laid (seen x) ≡ x) (zero : B) (again : seen (laid zero) ≡ zero) where
  looked-up_if : (n : ℕ) (l : List A) (k : ℕ) (b : Bool) → ltb k (length (map seen (take n l))) ≡ b
      → get_or (take (length (map seen (take n l))) l) k (laid zero) ≡ laid (get_or (map seen (take n l)) k zero)
  looked-up_if n l k true e =
      let within : k < length (map seen (take n l)) = ltb-true k (length (map seen (take n l))) e in
      get_or-take (length (map seen (take n l))) l k (laid zero) within
      ∙ sym (back (get_or l k (laid zero)))
      ∙ ap laid (sym (part-at seen n l k (laid zero) within) ∙ ap (λ (z : B). get_or (map seen (take n l)) k z) again)
  looked-up_if n l k false e =
      let behind : length (map seen (take n l)) ≤ k = ltb-false k (length (map seen (take n l))) e in
      let short : length (take (length (map seen (take n l))) l) ≤ k = rw (length-take (length (map seen (take n l))) l) (omega arith) in
      get_or-eq_default (take (length (map seen (take n l))) l) (laid zero) short
      ∙ ap laid (sym (part_behind seen n l k zero behind))

  pub looked_up : (n m : ℕ) (l : List A) (k : ℕ) → m ≡ length (map seen (take n l))
      → get_or (take m l) k (laid zero) ≡ laid (get_or (map seen (take n l)) k zero)
  looked_up n m l k e = rw e (looked-up_if n l k (ltb k (length (map seen (take n l)))) refl)
