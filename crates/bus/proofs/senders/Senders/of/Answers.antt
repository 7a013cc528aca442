-- The promises of the callees for tasks, modules and payloads are rewritten into `senders_of`, field by field.
use Rattle.bus.specs.Senders.{senders_of}
use Rattle.bus.proofs.senders.Senders.of.Goals as goal

pub returns : goal.returns
unfolding senders_of
returns c =
    let c1 = c.before in
    rw (c1.bus_tasks-tasks.ensures, c1.sending_modules-modules.ensures, c.control_payloads-payloads.ensures)
