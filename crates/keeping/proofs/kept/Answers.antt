-- Each part is its callee's promise; the table by number that `modules` requires is that of `Senders::of`, the arrays of readers those of
-- `Readers::of`, and `few-counted` is what `pair_modes` requires of them.
use native.Mathlib.Omega.{arith}
use Rattle.bus.specs.Senders.{senders_of}
use Rattle.plan.specs.Memory.{seen}
use Rattle.station.specs.Memory.{not_begun}
use Rattle.keeping.specs.Keeping.{kept_from, modes_in}
use Rattle.keeping.proofs.Read.{few-counted}
use Rattle.keeping.proofs.kept.Goals as goal

pub stops-pair_stops-requires : goal.stops-pair_stops-requires
stops-pair_stops-requires c = (c.requires.controls_le_most_nodes.1, c.requires.stops_fit)

pub pair_modes-pair_modes-requires : goal.pair_modes-pair_modes-requires
pair_modes-pair_modes-requires c =
    (c.requires.controls_le_most_nodes.1, rw c.of-readers.ensures (few-counted (seen c.args.p) c.requires.plan_kept))

pub modules-requires : goal.modules-requires
unfolding senders_of
modules-requires c = rw c.of-senders.ensures

pub tasks-requires : goal.tasks-requires
tasks-requires c = c.requires.plan_kept

pub controls-requires : goal.controls-requires
controls-requires c = c.requires.controls_le_most_nodes.0

pub overflow_cast-result : goal.overflow_cast-result
overflow_cast-result c = omega (arith, c.requires.controls_le_most_nodes.1)

pub returns : goal.returns
unfolding kept_from modes_in not_begun
returns c =
    rw (
      c.modules.ensures,
      c.modes.ensures,
      c.tasks.ensures,
      c.controls.ensures,
      c.stops-pair_stops.ensures,
      c.pair_modes-pair_modes.ensures,
      c.of-readers.ensures,
      c.runs-runs.ensures,
      c.nothing_played.ensures,
      c.zero.ensures,
    )
