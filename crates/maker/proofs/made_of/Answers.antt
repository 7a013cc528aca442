-- Two cases of the answer: in each the contract of `placed_table` computes to what is left.
use Rattle.maker.proofs.made_of.Goals as goal

pub returns-in-Ok : goal.returns-in-Ok
returns-in-Ok c = λ s. rw c.in-Ok.is (rw c.in-Ok.is at (c.placed_table-answer.ensures s))

pub returns-in-Err : goal.returns-in-Err
returns-in-Err c =
    λ s. rw c.refused.ensures (rw c.in-Err.is at (c.placed_table-answer.ensures s))
