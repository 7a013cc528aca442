-- Where the scan has found a row, `judged` looked at every rule (`settles_whole`); else the answer is kept (`settles_kept`).
use mathlib.Core.Path.{refl}
use Rattle.checker.proofs.Ways.{settles_whole, settles_kept}
use Rattle.checker.proofs.settled.Goals as goal

pub returns-then-early : goal.returns-then-early
returns-then-early c = rw c.if-early.true (settles_whole _ _ _ _ _ c.judged-all.ensures c.settled_by.ensures)

pub returns : goal.returns
returns c = rw c.if-early.false (settles_kept _ _ _ c.settled_by-2.ensures)

pub judged-all-requires : goal.judged-all-requires
judged-all-requires c = (refl, (refl, (refl, refl)))
