use Rattle.laws.proofs.Turns.{filled_none, filled_turn, filled-end}
use Rattle.keeping.specs.Keeping.{by_pair, modes_at}
use Rattle.keeping.proofs.pair_modes.Goals as goal

pub loop-q-init : goal.loop-q-init
loop-q-init c = filled_none

pub loop-q-preserved : goal.loop-q-preserved
unfolding modes_at
loop-q-preserved c =
    filled_turn c.loop-q.invariant (rw (← c.entry_or.ensures, ← c.entry_or-in-loop-q.ensures, ← c.from.ensures) c.modes_with.ensures)

pub returns : goal.returns
unfolding by_pair
returns c = filled-end c.loop-q.invariant c.loop-q.auto.q-end c.loop-q-test.false
