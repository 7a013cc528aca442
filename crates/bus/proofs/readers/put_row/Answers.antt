use mathlib.Core.Path.{refl}
use Prim.Native.Nat.{◌*◌}
use lib.ListN.{take}
use lib.Seq.{take_all}
use Rattle.laws.proofs.Rows.{sets_more}
use Rattle.bus.proofs.readers.put_row.Goals as goal

pub loop-k-init : goal.loop-k-init
loop-k-init c = refl

pub loop-k-preserved : goal.loop-k-preserved
loop-k-preserved c =
    let a = c.args in
    rw c.loop-k.invariant (sets_more a.periods.now (a.t * 64) (take a.n a.row) c.loop-k.k 0 c.loop-k-test.true)

pub returns : goal.returns
returns c = rw (take_all c.loop-k.k (take c.args.n c.args.row) c.loop-k-test.false) at c.loop-k.invariant
