-- No second result and no second text are left of a plan file and a table file.
use mathlib.Core.Path.{◌≡◌, sym, ◌∙◌}
use mathlib.Core.List.{List}
use Prim.Native.Nat.{ℕ}
use Rattle.checked.proofs.Unique.{heard-once}
use Rattle.sheetwriter.specs.declared.Written.{Written}
use Rattle.sheetwriter.specs.Writing.{Writes}

same_parts : (a b : Written) → a.answer ≡ b.answer → a.length ≡ b.length → a ≡ b
same_parts a b answer long = let one : a ≡ record { answer = b.answer; length = b.length } = rw (← answer, ← long) in one

pub writes_once : (a b : Written) (plan table old left left' : List ℕ) → Writes a old left plan table → Writes b old left' plan table → (a ≡ b) × (left ≡ left')
writes_once a b plan table old left left' p q = (
  same_parts a b (heard-once a.answer b.answer (p.answered ∙ sym q.answered)) (p.long ∙ sym q.long),
  p.put ∙ sym q.put,
)
