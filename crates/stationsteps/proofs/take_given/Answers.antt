use mathlib.Core.Path.{sym, ◌∙◌}
use native.Mathlib.Omega.{arith}
use lib.ListN.{length}
use Prim.Native.Nat.{◌<◌}
use borrow.Author.Rules.{get_or_read}
use Rattle.laws.proofs.Turns.{filled_turn, filled_next}
use Rattle.stationsteps.proofs.take_given.Goals as goal
use Rattle.stationsteps.proofs.take_given.Goals.{then-is_set, else-is_set}

pub loop-k-preserved : goal.loop-k-preserved
loop-k-preserved g c = λ d.
    let so_far = c.loop-k.invariant d in
    let there : c.loop-k.k < length c.args.values.now = omega arith in
    let here : c.loop-k.k < length c.loop-k.places = omega arith in
    elim c.if-is_set.branch [
      | then-is_set w ↦ rw w.places-is (filled_turn so_far (rw (← c.is_set.ensures, w.if-is_set.true) (get_or_read _ _ _ there w.index-values-k.is d)))
      | else-is_set w ↦ rw w.places-is (filled_turn so_far (rw (← c.is_set.ensures, w.if-is_set.false) (sym c.index-places-k.is ∙ get_or_read _ _ _ here c.index-places-k.is d ∙ filled_next so_far d)))
    ]
