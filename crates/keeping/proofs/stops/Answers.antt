use mathlib.Core.Path.{◌∙◌}
use Rattle.laws.proofs.Turns.{filled_none, filled_turn, filled-end}
use Rattle.keeping.specs.Keeping.{by_pair}
use Rattle.keeping.proofs.Pairs.{stop_is, stop-fits}
use Rattle.keeping.proofs.stops.Goals as goal

pub loop-q-init : goal.loop-q-init
loop-q-init c = filled_none

pub overflow_add-stops : goal.overflow_add-stops
overflow_add-stops c =
    let a = c.args in
    record {
      fits = stop-fits a.starts.now a.tasks.now a.times.now c.loop-q.q c.entry_or-start.ensures
          (c.from.ensures ∙ c.entry_or-task.ensures) c.entry_or-time.ensures c.requires.1 c.loop-q-test.true;
    }

pub loop-q-preserved : goal.loop-q-preserved
loop-q-preserved c =
    let a = c.args in
    filled_turn c.loop-q.invariant
    (stop_is a.starts.now a.tasks.now a.times.now c.loop-q.q c.entry_or-start.ensures (c.from.ensures ∙ c.entry_or-task.ensures) c.entry_or-time.ensures)

pub returns : goal.returns
unfolding by_pair
returns c = filled-end c.loop-q.invariant c.loop-q.auto.q-end c.loop-q-test.false
