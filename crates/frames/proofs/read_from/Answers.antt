-- Where the reader is not slower the first deadline is the one (`first-here`); else the expression is the definition.
use mathlib.Core.Path.{refl, sym}
use native.Mathlib.Nat.{div-mul-le_self}
use native.Mathlib.Omega.{arith}
use Prim.Native.Nat.{◌+◌, ◌-◌, ◌*◌, ◌/◌}
use Rattle.laws.specs.Numbers.{ceil, up, down}
use Rattle.laws.proofs.Readers.{first-here}
use Rattle.frames.proofs.read_from.Goals as goal

pub returns-then-reader-period : goal.returns-then-reader-period
returns-then-reader-period c =
    let p = c.requires in
    sym (first-here _ _ _ p.period_nonzero.0 p.reader_nonzero.0 p.period_nonzero.1 c.if-reader-period.true)

pub overflow_mul-read : goal.overflow_mul-read
overflow_mul-read c =
    let a = c.args in
    omega (arith, div-mul-le_self (a.first + (a.reader - 1)) a.reader)

pub overflow_mul-result : goal.overflow_mul-result
overflow_mul-result c =
    let a = c.args in
    let up = (a.first + (a.reader - 1)) / a.reader * a.reader in
    omega (arith, div-mul-le_self up a.period, div-mul-le_self (a.first + (a.reader - 1)) a.reader)

pub returns : goal.returns
unfolding down up ceil
returns c = refl
