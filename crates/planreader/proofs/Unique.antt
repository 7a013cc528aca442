-- No second result and no second bytes are left of a text and the bytes that are lent.
use mathlib.Core.Path.{◌≡◌, sym, ◌∙◌}
use mathlib.Core.List.{List}
use Prim.Native.Nat.{ℕ}
use Rattle.std.specs.Prelude.{Result}
use Rattle.planreader.specs.declared.Unread.{Unread}
use Rattle.planreader.proofs.Answers.{Answers}

pub answers-once : (a b : Result ℕ Unread) (text lent left left' : List ℕ) → Answers text lent a left → Answers text lent b left' → (a ≡ b) × (left ≡ left')
answers-once a b text lent left left' p q = (p.0 ∙ sym q.0, p.1 ∙ sym q.1)
