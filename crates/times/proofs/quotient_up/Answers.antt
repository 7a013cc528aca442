-- Two cases: by 0 the answer is 0 (`ceil_by_zero`); else the expression is `ceil` itself, and `ceil-le` bounds it.
use borrow.Author.Rules.{rules}
use mathlib.Core.Path.{refl}
use Rattle.laws.specs.Numbers.{ceil}
use Rattle.laws.proofs.Bus.{ceil_by_zero, ceil-le}
use Rattle.times.proofs.quotient_up.Goals as goal

pub returns-then-b-eq0 : goal.returns-then-b-eq0
returns-then-b-eq0 c = (rw (c.if-b-eq0.true, ceil_by_zero), search rules)

pub returns : goal.returns
unfolding ceil
returns c = rw c.from-d.ensures (refl, ceil-le _ _)
