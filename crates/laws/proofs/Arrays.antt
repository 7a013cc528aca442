-- Arrays: lists laid into a fixed number of places, read back place by place.
use mathlib.Core.Path.{◌≡◌, refl, sym, ap, ◌∙◌}
use mathlib.Core.Bool.{Bool, true, false, cond}
use mathlib.Core.List.{List, [], ◌∷◌, ◌++◌, map}
use native.Mathlib.Nat.{zero-add, add-zero, add-suc, suc-add}
use native.Mathlib.Omega.{arith}
use lib.Dec.{ltb}
use lib.ListN.{length, get_or, set, length-map, get_or-map}
use lib.Seq.{ext_get_or, set_out}
use borrow.Author.Tests.{ltb-false}
use Prim.Native.Nat.{ℕ, zero, suc, ◌+◌, ◌<◌}
use Rattle.laws.specs.Lists.{tab, last_d}
use Rattle.laws.specs.Loops.{pad_to, placed}
use Rattle.laws.proofs.Lists.{map_snoc, length-tab, get_or-tab, length-pad_to, get_or-pad_to, pad_to_snoc}

module _ {A : Type 0} where
  -- a list is what its places hold
  pub tab_list : (f : ℕ → A) (l : List A) (d : A) (n : ℕ) → n ≡ length l → ((k : ℕ) → k < n → f k ≡ get_or l k d) → tab f 0 n ≡ l
  tab_list f l d n e h =
      ext_get_or d (tab f 0 n) l (length-tab f 0 n ∙ e) λ k w.
      let w' : k < n = rw (length-tab f 0 n) at w in
      get_or-tab f 0 n k d w' ∙ ap f (zero-add k) ∙ h k w'

  -- a number of each element, laid into n places and read back; the default is the number of the default element
  pub get_or-laid : (g : A → ℕ) (l : List A) (d : A) (n k : ℕ) → g d ≡ 0 → k < n → get_or (pad_to n 0 (map g l)) k 0 ≡ g (get_or l k d)
  get_or-laid g l d n k e h =
      get_or-pad_to n 0 (map g l) k h ∙ ap (get_or (map g l) k) (sym e) ∙ get_or-map g l k d

-- ---- stores that ask nothing of the place

module _ {A : Type 0} (room : ℕ) (old : List A) (k : ℕ) (x : A) where
  placed_if : (b : Bool) → ltb k room ≡ b → length old ≡ room → cond b (set old k x) old ≡ set old k x
  placed_if true e n = refl
  placed_if false e n = sym (set_out old k x (omega (arith, ltb-false k room e)))

  -- into an array of that many places
  pub placed-set : length old ≡ room → placed room old k x ≡ set old k x
  placed-set n = placed_if (ltb k room) refl n

-- one element more, in an array that is filled up
pub placed_snoc : {A : Type 0} (room : ℕ) (z : A) (l : List A) (x : A) → placed room (pad_to room z l) (length l) x ≡ pad_to room z (l ++ (x ∷ []))
placed_snoc room z l x = placed-set room (pad_to room z l) (length l) x (length-pad_to room z l) ∙ sym (pad_to_snoc room z l x)

-- the same of a number of each element
pub placed-column : {A : Type 0} (room : ℕ) (f : A → ℕ) (l : List A) (x : A)
    → placed room (pad_to room 0 (map f l)) (length l) (f x) ≡ pad_to room 0 (map f (l ++ (x ∷ [])))
placed-column room f l x =
    ap (λ (k : ℕ). placed room (pad_to room 0 (map f l)) k (f x)) (sym (length-map l f))
    ∙ placed_snoc room 0 (map f l) (f x) ∙ ap (pad_to room 0) (sym (map_snoc f l x))

-- ---- the last of a row of places

pub last-tab : {A : Type 0} (f : ℕ → A) (low n : ℕ) (d : A) → last_d (tab f low (suc n)) d ≡ f (low + n)
last-tab f low zero d = ap f (sym (add-zero low))
last-tab f low (suc n) d = last-tab f (suc low) n (f low) ∙ ap f (suc-add low n ∙ sym (add-suc low n))
