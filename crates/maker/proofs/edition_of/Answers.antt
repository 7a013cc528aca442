-- Both numbers compute, each with what the test says.
use mathlib.Core.Path.{refl}
use Rattle.maker.specs.Making.{is_edition, for_consumers}
use Rattle.maker.proofs.edition_of.Goals as goal

pub returns-then-consumers : goal.returns-then-consumers
unfolding is_edition for_consumers
returns-then-consumers c = (refl, rw c.if-consumers.true)

pub returns-else-consumers : goal.returns-else-consumers
unfolding is_edition for_consumers
returns-else-consumers c = (refl, rw c.if-consumers.false)
