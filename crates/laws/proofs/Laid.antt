-- Arrays that hold a rule's values (`tab`), with one place changed; arrays into which a list was laid from a place on (`sets`).
use mathlib.Core.Path.{◌≡◌, refl, sym, ap, ap₂, ◌∙◌}
use mathlib.Core.List.{List, [], ◌∷◌, ◌++◌}
use native.Mathlib.Nat.{add-zero, add-suc, suc-add}
use native.Mathlib.Omega.{arith}
use lib.ListN.{length, set}
use lib.Seq.{sets}
use Prim.Native.Nat.{ℕ, zero, suc, ◌+◌, ◌≤◌, ◌<◌}
use Rattle.laws.specs.Lists.{tab}

module _ {A : Type 0} (f g : ℕ → A) where
  pub tab-same : (lo n : ℕ) → ((u : ℕ) → lo ≤ u → u < lo + n → f u ≡ g u) → tab f lo n ≡ tab g lo n
  tab-same lo zero h = refl
  tab-same lo (suc n) h =
      ap₂ ◌∷◌ (h lo (omega arith) (omega arith)) (tab-same (suc lo) n (λ u a b. h u (omega arith) (omega arith)))

pub sets_append : {A : Type 0} (old : List A) (at : ℕ) (l m : List A) → sets old at (l ++ m) ≡ sets (sets old at l) (at + length l) m
sets_append old at [] m = rw (add-zero at)
sets_append old at (x ∷ l) m =
    sets_append (set old at x) (suc at) l m ∙ ap (λ (k : ℕ). sets (sets (set old at x) (suc at) l) k m) (suc-add at (length l) ∙ sym (add-suc at (length l)))
