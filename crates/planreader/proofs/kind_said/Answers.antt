-- By the test whether the kind may come, and by what its words come to (`kind-not`, `kind-fails`, `kind_fits`).
use native.Mathlib.Omega.{arith}
use lib.ListN.{drop}
use Rattle.std.proofs.lemmas.Result.{err_from_is_err_and}
use Rattle.text.specs.Lines.{words}
use Rattle.planreader.proofs.Sayings.{kind-not, kind-fails, kind_fits}
use Rattle.planreader.proofs.kind_said.Goals as goal

pub returns-then-not-may_come : goal.returns-then-not-may_come
returns-then-not-may_come c =
    let a = c.args in
    let h = kind-not a.last.kind a.kind (words (drop a.from a.s.now)) a.last.end a.out.now c.may_come.ensures c.if-not-may_come.true c.why_not.ensures in
    record { value = h.0; out_after = h.1 }

pub returns-in_err-end : goal.returns-in_err-end
returns-in_err-end c =
    let a = c.args in
    let h = kind-fails a.last.kind a.kind (words (drop a.from a.s.now)) a.last.end a.out.now c.may_come.ensures c.if-not-may_come.false (omega arith)
    c.put8.ensures (c.put_items.ensures.value, c.put_items.ensures.out_after) c.in_err-end.was in
    let p = err_from_is_err_and c.from_residual.result c.from_residual.ensures.1 in
    record { value = rw (p.1, p.2) h.0; out_after = h.1 }

pub returns : goal.returns
returns c =
    let a = c.args in
    let h = kind_fits a.last.kind a.kind (words (drop a.from a.s.now)) a.last.end a.out.now c.may_come.ensures c.if-not-may_come.false (omega arith)
    c.put8.ensures (c.put_items.ensures.value, c.put_items.ensures.out_after) c.in_ok-end.was in
    record { value = h.0; out_after = h.1 }
