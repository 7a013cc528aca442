-- Invariant: the table is that of the first t tasks (`sending_by`); each turn is `sending_turn`, and at the end t is their number.
use mathlib.Core.Path.{◌≡◌}
use Rattle.rules.specs.Plan.{Plan}
use Rattle.rules.specs.Traffic.{is_bus_task}
use Rattle.bus.specs.Senders.{by_number, task_home, sending_by}
use Rattle.bus.proofs.senders.sending_modules.Given as goal

abbrev pub invariant-loop-t : goal.invariant-loop-t
invariant-loop-t l =
    ((q : Plan) → l.tasks ≡ by_number (is_bus_task q) → l.homes ≡ by_number (task_home q) → l.modules ≡ by_number (sending_by q l.t))
