-- One piece, or a word and what follows it (`both_put`).
use Rattle.text.specs.Text.{ascii}
use Rattle.text.proofs.Putting.{both_put}
use Rattle.planwords.specs.Items.{spelled}
use Rattle.planwords.specs.TextPlan.{reason_text}
use Rattle.planitems.proofs.put_reason.Goals as goal

pub returns-in-NodesExpected-clause-out_after : goal.returns-in-NodesExpected-clause-out_after
unfolding reason_text
returns-in-NodesExpected-clause-out_after c = rw c.in-NodesExpected.is c.put_bytes-in-NodesExpected.ensures

pub returns-in-UnknownWord-clause-out_after : goal.returns-in-UnknownWord-clause-out_after
unfolding reason_text
returns-in-UnknownWord-clause-out_after c = rw c.in-UnknownWord.is c.put_bytes-in-UnknownWord.ensures

pub returns-in-OutOfOrder-clause-out_after : goal.returns-in-OutOfOrder-clause-out_after
unfolding reason_text
returns-in-OutOfOrder-clause-out_after c = rw c.in-OutOfOrder.is c.put_bytes-in-OutOfOrder.ensures

pub returns-in-Expected-clause-out_after : goal.returns-in-Expected-clause-out_after
unfolding reason_text
returns-in-Expected-clause-out_after c =
    rw c.in-Expected.is (both_put _ _ _ (spelled _) (ascii " expected") _ _ _ c.put_name-end.ensures.out_after c.put_bytes-in-Expected.ensures)
