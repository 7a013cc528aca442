-- By the test of the length: the last line's promise, or what was heard.
use borrow.Author.Tests.{le-leb, lt-leb}
use Rattle.hearing.proofs.Coming.{rest_part}
use Rattle.hearing.proofs.hear_end.Goals as goal

pub returns-then-s-le-LONGEST : goal.returns-then-s-le-LONGEST
returns-then-s-le-LONGEST c =
    rw (le-leb _ _ c.if-s-le-LONGEST.true) (rw (rest_part c.args.s.now c.args.at) at c.hear_last.ensures)

pub returns : goal.returns
returns c = rw (lt-leb _ _ c.if-s-le-LONGEST.false)
