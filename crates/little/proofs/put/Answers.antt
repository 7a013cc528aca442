-- What stands in front of the copied bytes, these, and what stands behind them is the buffer with the bytes in their places (`sets-eq`).
use Rattle.std.proofs.Common.{◌≡◌, ◌+◌, ◌≤◌, ◌∙◌, ℕ, List, sym, length, arith, append_assoc, drop-drop}
use Rattle.std.proofs.lemmas.List.Edits.{sets, sets-eq}
use borrow.Rule.Slice.PartMut.{put_mid}
use borrow.Author.Tests.{leb-true}
use Rattle.little.proofs.put.Goals as goal

copied :
    (l vs ys : List ℕ) (at n : ℕ) → ys ≡ vs → n ≡ length vs → at + length vs ≤ length l →
    put_mid at n l ys ≡ sets l at vs
copied l vs ys at n e k room = rw (e, k, sets-eq vs l at room, append_assoc, drop-drop)

pub returns-then-holds : goal.returns-then-holds
returns-then-holds c =
    let a = c.args in
    copied a.buf.now a.bytes.now _ a.at _ c.copy_from_slice.ensures.after (omega arith)
    (leb-true _ _ (sym c.holds.ensures ∙ c.if-holds.true))
