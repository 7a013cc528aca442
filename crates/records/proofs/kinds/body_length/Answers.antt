-- A kind for which 255 stands in the table is unknown (`unknown_none`), and the others have their length there (`known_some`).
use Rattle.std.proofs.Common.{◌∙◌, sym}
use Rattle.records.proofs.LengthTable.{unknown_none, known_some}
use Rattle.records.proofs.kinds.body_length.Goals as goal

pub returns-then-length : goal.returns-then-length
returns-then-length c = unknown_none c.args.kind (sym c.length_byte-length.ensures ∙ c.if-length.true)

pub returns-else-length : goal.returns-else-length
returns-else-length c = rw c.length_byte-length.ensures (known_some c.args.kind (λ e. c.if-length.false (c.length_byte-length.ensures ∙ e)))
