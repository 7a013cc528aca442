use native.Mathlib.Nat.{dvd-add, dvd_refl}
use native.Mathlib.Omega.{arith}
use Rattle.frames.proofs.Reading.{reader_fits, first_fits, look_first, look_more, looked-all, looked-enough}
use Rattle.frames.proofs.next_read.Goals as goal

pub read_from-next-requires : goal.read_from-next-requires
read_from-next-requires c =
    let p = c.requires in
    record { period_nonzero = (p.period_nonzero.0, dvd-add _ p.period_nonzero.1 (dvd_refl _), p.period_nonzero.2); reader_nonzero = first_fits _ _ _ p.readable }

pub loop-i-init : goal.loop-i-init
loop-i-init c =
    let p = c.requires in
    look_first _ _ _ _ _ p.readable c.read_from-next.ensures

pub returns-then-next-first : goal.returns-then-next-first
returns-then-next-first c =
    let p = c.requires in
    looked-enough _ _ _ _ _ p.period_nonzero.1 p.period_nonzero.0 p.readable c.loop-i.invariant c.if-next-first.true

pub read_from-requires : goal.read_from-requires
read_from-requires c =
    let p = c.requires in
    record { period_nonzero = (p.period_nonzero.0, dvd-add _ p.period_nonzero.1 (dvd_refl _), p.period_nonzero.2); reader_nonzero = reader_fits _ _ _ p.readable _ (omega arith) }

pub loop-i-preserved : goal.loop-i-preserved
loop-i-preserved c =
    look_more _ _ _ _ _ c.loop-i.invariant (omega arith) c.read_from.ensures c.min-next.ensures

pub returns : goal.returns
returns c =
    let p = c.requires in
    looked-all _ _ _ _ _ p.period_nonzero.1 c.loop-i.invariant (omega arith)
