-- The three cases of the reader: often enough (`read_often`), just now (`read_now`), or next (`read_next`).
use Prim.Native.Nat.{◌<◌}
use native.Mathlib.Nat.{mod-lt}
use native.Mathlib.Omega.{arith}
use Rattle.keeping.proofs.Read.{read_often, read_now, read_next}
use Rattle.keeping.proofs.is_read.Goals as goal

pub returns-then-reader-period : goal.returns-then-reader-period
returns-then-reader-period c = read_often c.args.period c.args.deadline c.requires c.args.reader c.if-reader-period.true

pub returns-then-behind-eq0 : goal.returns-then-behind-eq0
returns-then-behind-eq0 c =
    read_now c.args.period c.args.deadline c.requires c.args.reader c.if-behind-eq0.true

pub overflow_sub-result : goal.overflow_sub-result
overflow_sub-result c =
    let a = c.args in
    let some : 0 < a.reader = omega (arith, c.if-reader-period.false) in
    omega (arith, mod-lt a.deadline some)

pub returns : goal.returns
returns c =
    read_next c.args.period c.args.deadline c.requires c.args.reader (omega (arith, c.if-behind-eq0.false)) (omega (arith, c.if-reader-period.false))
