-- Two pieces.
use mathlib.Core.List.{[], ◌∷◌}
use Rattle.text.specs.Text.{marked}
use Rattle.text.proofs.Putting.{both_put}
use Rattle.planwriter.proofs.put_counted.Goals as goal

pub returns-clause-out_after : goal.returns-clause-out_after
returns-clause-out_after c =
    let a = c.args in
    both_put _ _ _ (marked a.mark.now a.k) (44 ∷ 32 ∷ []) _ _ _ c.put_marked-end.ensures.out_after c.put_bytes.ensures
