-- The four stores, one behind the other, are one store of the head's bytes (`fields-put`).
use mathlib.Core.List.{[], ◌∷◌}
use Rattle.rules.specs.Records.{head_fields}
use Rattle.table.specs.Rows.{head_in}
use Rattle.table.proofs.Glued.{one_byte, fields-put}
use borrow.Author.Rules.{rules}
use Rattle.table.proofs.write.put_header.Goals as goal

pub returns : goal.returns
unfolding head_in
returns c =
    let a = c.args in
    rw (c.put16.ensures, c.put8-2.ensures, c.put32.ensures, c.put8.ensures)
    (fields-put a.head head_fields (a.period.0 ∷ a.controls ∷ a.datas ∷ []) 0 a.buf.now (one_byte a.head (search rules)))
