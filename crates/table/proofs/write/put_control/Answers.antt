-- The four stores, one behind the other, are one store of the record's bytes (`record_put`).
use mathlib.Core.Path.{refl}
use mathlib.Core.List.{[], ◌∷◌}
use Rattle.rules.specs.Records.{fields, kinds}
use Rattle.table.proofs.Glued.{record_put}
use Rattle.table.proofs.write.put_control.Goals as goal

pub returns : goal.returns
unfolding fields kinds
returns c =
    let a = c.args in
    rw (c.put32-2.ensures, c.put32.ensures, c.put8-2.ensures, c.put8.ensures)
    (record_put 17 (a.node.0 ∷ a.start.0 ∷ a.stop.0 ∷ []) a.at a.buf.now refl)
