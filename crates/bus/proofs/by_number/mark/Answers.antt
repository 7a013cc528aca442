use mathlib.Core.Path.{refl}
use native.Mathlib.Omega.{arith}
use Rattle.std.specs.Fn.{FnReturnsAt}
use Rattle.bus.proofs.Marking.{marked-none, turn-none, turn-some, turns_end}
use Rattle.bus.proofs.by_number.mark.Goals as goal
use Rattle.bus.proofs.by_number.mark.Goals.{in-Some, in_default}

pub loop-thing-init : goal.loop-thing-init
loop-thing-init g c = λ test told. marked-none test c.args.table.now

pub loop-thing-preserved : goal.loop-thing-preserved
loop-thing-preserved g c = λ test told.
    let said : FnReturnsAt g.F.Fn c.args.number_of c.thing-item.result c.number_of.result = record { shown = _; shows = refl; says = record { met = c.number_of.ensures } } in
    elim c.match-number_of.branch [
      | in-Some w ↦ rw (w.table-is, w.from.ensures) (turn-some told c.loop-thing-test.true (c.loop-thing.invariant test told) c.thing-item.is said w.in-Some.is (omega arith))
      | in_default w ↦ rw w.table-is (turn-none told c.loop-thing-test.true (c.loop-thing.invariant test told) c.thing-item.is said w.in_default.is)
    ]

pub returns : goal.returns
returns g c = λ test told. turns_end c.loop-thing-test.false (c.loop-thing.invariant test told)
