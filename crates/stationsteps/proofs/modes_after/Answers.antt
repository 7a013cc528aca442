-- What was taken is what the rule gives (`all-taken`); behind the array nothing is given (`mode-read`).
use borrow.Author.Rules.{rules}
use Rattle.stationsteps.proofs.Ways.{all-taken, mode-read}
use Rattle.stationsteps.proofs.modes_after.Goals as goal

pub returns : goal.returns
returns c =
    let a = c.args in
    let e = all-taken a.modes.now a.changed a.running 16 (search rules) (c.take_given.ensures 0) in
    record { value = e; reads = mode-read a.modes.now a.changed a.running (search rules) (search rules) e }
