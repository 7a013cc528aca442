-- The line that is put is that of the refusal (`line-alone`).
use native.Mathlib.Omega.{arith}
use mathlib.Core.Path.{refl}
use Rattle.sheetwriter.proofs.Ways.{line-alone}
use Rattle.sheetwriter.proofs.refused.Goals as goal

pub returns : goal.returns
returns c =
    let a = c.args in
    let all =
    line-alone a.out.now _ _ a.why c.number.ensures c.place.ensures (omega arith) (omega arith) c.put_refused-length.ensures refl in
    record { prints = all.0; few = all.1 }
