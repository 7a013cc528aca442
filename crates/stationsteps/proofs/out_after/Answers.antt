-- What was taken is what the rule gives (`all-taken`); behind the array nothing is given (`out-read`).
use borrow.Author.Rules.{rules}
use Rattle.stationsteps.proofs.Ways.{all-taken, out-read}
use Rattle.stationsteps.proofs.out_after.Goals as goal

pub returns : goal.returns
returns c =
    let a = c.args in
    let e = all-taken a.results.now a.given a.out 32 (search rules) (c.take_given.ensures 0) in
    record { value = e; reads = out-read a.results.now a.given a.out (search rules) (search rules) e }
