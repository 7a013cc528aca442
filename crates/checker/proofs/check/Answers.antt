-- Where `judged` refuses there are no rows (`way_refused`); else what it gives is the check (`way_fine`).
use mathlib.Core.Path.{refl}
use Rattle.checker.proofs.Ways.{way_refused, way_fine}
use Rattle.checker.proofs.check.Goals as goal

pub returns-in-Err : goal.returns-in-Err
returns-in-Err c =
    let a = c.args in
    let h =
    way_refused a.plan.now a.table.now a.lent _ c.judged-all.ensures _ _ c.in-Err.is c.refused.ensures (refl, (refl, (refl, refl)))
    in
    record { checks = h.0; passes_exactly = h.1.0; refuses_exactly = h.1.1 }

pub returns-in-Ok : goal.returns-in-Ok
returns-in-Ok c =
    let a = c.args in
    let h = way_fine a.plan.now a.table.now a.lent _ c.judged-all.ensures c.in-Ok.is in
    record { checks = h.0; passes_exactly = h.1.0; refuses_exactly = h.1.1 }

pub judged-all-requires : goal.judged-all-requires
judged-all-requires c = (refl, (refl, (refl, refl)))
