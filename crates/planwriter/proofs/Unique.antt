-- No second answer and no second text are left of a plan and the lent bytes.
use mathlib.Core.Path.{◌≡◌, sym, ◌∙◌}
use mathlib.Core.List.{List}
use Prim.Native.Nat.{ℕ}
use Rattle.std.specs.Prelude.{Result}
use Rattle.planwriter.specs.declared.Unprinted.{Unprinted}
use Rattle.planwriter.proofs.Ways.{Prints}

pub prints_once : (a b : Result ℕ Unprinted) (plan old left left' : List ℕ) → Prints plan old a left → Prints plan old b left' → (a ≡ b) × (left ≡ left')
prints_once a b plan old left left' p q = (p.0 ∙ sym q.0, p.1 ∙ sym q.1)
