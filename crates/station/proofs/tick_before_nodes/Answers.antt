-- A refusal leaves all alone (`refused_way`); that nothing was refused is what `accepted` requires.
use mathlib.Core.Path.{sym, ap, ◌∙◌}
use Rattle.answers.specs.Answered.{judged}
use Rattle.station.proofs.Ticking.{refused_way}
use Rattle.station.proofs.tick_before_nodes.Goals as goal

pub accepted-requires : goal.accepted-requires
accepted-requires c = sym (ap judged c.in-Ok.is) ∙ c.refused.ensures

pub returns-in-Err : goal.returns-in-Err
returns-in-Err c =
    λ nodes valued. rw c.left_alone.ensures
    (refused_way _ _ valued c.in-Err.why (sym (ap judged c.in-Err.is) ∙ c.refused.ensures))

pub returns-in-Ok : goal.returns-in-Ok
returns-in-Ok c = c.accepted.ensures
