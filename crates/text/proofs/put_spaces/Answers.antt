use Rattle.std.proofs.Common.{add-zero, arith}
use Rattle.text.proofs.Putting.{putting_none, putting_turn, putting_end, spaces-texts}
use Rattle.text.proofs.put_spaces.Goals as goal

pub loop-i-init : goal.loop-i-init
loop-i-init c = rw (add-zero c.args.at) putting_none

pub loop-i-preserved : goal.loop-i-preserved
loop-i-preserved c = putting_turn c.loop-i.invariant (c.store.ensures, omega arith)

pub returns-clause-buf_after : goal.returns-clause-buf_after
returns-clause-buf_after c =
    let p = rw (spaces-texts c.args.n) at (putting_end {n = c.args.n} c.loop-i.invariant c.loop-i.auto.i-end c.loop-i-test.false) in
    (p.0, omega (arith, p.1))
