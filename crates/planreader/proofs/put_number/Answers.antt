use native.Mathlib.Omega.{arith}
use mathlib.Core.Path.{◌≡◌}
use Prim.Native.Nat.{◌+◌, ◌-◌}
use Rattle.planreader.proofs.Numbers.{laying_turn, laying_end}
use Rattle.planreader.proofs.put_number.Goals as goal

pub loop-k-preserved : goal.loop-k-preserved
loop-k-preserved c =
    let a = c.args in
    let k = c.loop-k.k in
    let less : a.wide - (k + 1) ≡ a.wide - k - 1 = omega arith in
    let behind : a.at + (k + 1) ≡ a.at + k + 1 = omega arith in
    rw (less, behind) (laying_turn c.loop-k.invariant (omega (arith, c.loop-k-test.true)) (rw c.from.ensures at c.put8.ensures))

pub returns-clause-out_after : goal.returns-clause-out_after
returns-clause-out_after c =
    let h = laying_end c.loop-k.invariant (omega (arith, c.loop-k-test.false)) in
    (h.0.0, omega (arith, h.0.1, c.from-2.ensures, c.loop-k-test.false, c.loop-k.auto.k-end))
