use mathlib.Core.Path.{refl}
use native.Mathlib.Omega.{arith}
use native.Mathlib.Nat.{dvd-zero}
use Prim.Native.Nat.{zero-le}
use Rattle.frames.proofs.Meeting.{fair-at, readable_at, next-within, planting_none, planting_more, planting_all}
use Rattle.frames.proofs.plant.Goals as goal

pub loop-i-init : goal.loop-i-init
loop-i-init c = planting_none _ _ _ _ _ _ _ _ refl

pub next_read-next-requires : goal.next_read-next-requires
next_read-next-requires c =
    let h = c.loop-i-test.true in
    let f = fair-at _ _ _ _ _ _ c.requires.fair h in
    record {
      period_nonzero = (f.positive, dvd-zero _, omega (arith, f.within, c.requires.short), f.place);
      readable = readable_at _ _ _ _ _ _ _ c.requires _ h;
    }

pub key-requires : goal.key-requires
key-requires c =
    let h = c.loop-i-test.true in
    record {
      deadline_le_latest_deadline = next-within _ _ _ _ _ _ _ c.requires zero-le h c.next_read-next.ensures;
      run_lt_most_invocations = omega (arith, c.requires.few, c.requires.small);
    }

pub loop-i-preserved : goal.loop-i-preserved
loop-i-preserved c =
    planting_more _ _ _ _ _ _ _ c.loop-i.invariant c.requires (omega arith) c.next_read-next.ensures c.key.ensures

pub returns : goal.returns
returns c = planting_all _ _ _ _ _ _ _ c.loop-i.invariant c.requires (omega arith)
