-- Invariant: the table counts the first m modules (`payload_by`); a turn is `payloads_turn`, and `payload-fits` bounds a count.
use mathlib.Core.Path.{◌≡◌}
use Rattle.rules.specs.Plan.{Plan}
use Rattle.rules.specs.Traffic.{is_sending, module_node}
use Rattle.bus.specs.Senders.{by_number, payload_by}
use Rattle.bus.proofs.senders.control_payloads.Given as goal

abbrev pub invariant-loop-m : goal.invariant-loop-m
invariant-loop-m l =
    ((q : Plan) → l.modules ≡ by_number (is_sending q) → l.nodes ≡ by_number (module_node q) → l.payloads ≡ by_number
    (payload_by q l.m))
