use mathlib.Core.Path.{refl}
use Rattle.std.specs.Fn.{FnReturnsAt}
use Rattle.laws.proofs.Loops.{stores_turn}
use Rattle.bus.proofs.Marking.{given_at}
use Rattle.bus.proofs.by_number.fill.Goals as goal

pub loop-number-preserved : goal.loop-number-preserved
loop-number-preserved g c = λ f told.
    let said : FnReturnsAt g.F.Fn c.args.number_of c.index-things-number.result c.number_of.result = record { shown = _; shows = refl; says = record { met = c.number_of.ensures } } in
    stores_turn _ _ _ (c.loop-number.invariant f told) (given_at told c.loop-number-test.true c.index-things-number.is said)
