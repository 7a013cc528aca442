-- The test decides the `cond`.
use borrow.Author.Tests.{eq-eqb, ne_eqb}
use Rattle.bus.proofs.runs.lesser.Goals as goal

pub returns-then-before-eq0 : goal.returns-then-before-eq0
returns-then-before-eq0 c = rw (eq-eqb _ 0 c.if-before-eq0.true)

pub returns-else-before-eq0 : goal.returns-else-before-eq0
returns-else-before-eq0 c = rw (ne_eqb _ 0 c.if-before-eq0.false) c.min.ensures
