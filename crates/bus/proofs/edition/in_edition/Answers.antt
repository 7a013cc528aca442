-- The test decides `plan_in`; without it the plan is laid out as it stands.
use Rattle.bus.proofs.edition.in_edition.Goals as goal

pub returns-then-consumers : goal.returns-then-consumers
returns-then-consumers c = rw c.if-consumers.true c.for_consumers.ensures

pub returns-else-consumers : goal.returns-else-consumers
returns-else-consumers c = rw c.if-consumers.false c.requires
