-- By the row, the callee's promise is rewritten into the definition.
use Rattle.answerlines.proofs.put_row.Goals as goal

pub returns-in-Control : goal.returns-in-Control
returns-in-Control c = record { out_after = rw c.in-Control.is c.put_control.ensures.out_after; few = c.put_control.ensures.few }

pub returns-in-Data : goal.returns-in-Data
returns-in-Data c = record { out_after = rw c.in-Data.is c.put_data.ensures.out_after; few = c.put_data.ensures.few }
