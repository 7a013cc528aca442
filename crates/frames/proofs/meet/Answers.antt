use borrow.Author.Rules.{rules}
use mathlib.Core.Path.{◌≡◌, refl}
use Prim.Native.Nat.{max}
use native.Mathlib.Nat.{le_of_dvd}
use native.Mathlib.Omega.{arith}
use Rattle.frames.proofs.Meeting.{taking_start, taken-few, ending, next_readable, next-short, root_rises, taking_turn, taking_end}
use Rattle.frames.proofs.meet.Goals as goal

pub loop-root-init : goal.loop-root-init
loop-root-init c =
    taking_start _ _ _ _ _ _ _ _ _ c.requires.ready c.requires.waiting c.requires.d_nonzero.2 c.requires.first_value

pub behind_release-b-requires : goal.behind_release-b-requires
behind_release-b-requires c =
    let e = ending _ _ _ _ _ _ _ _ _ c.requires.ready c.requires.d_nonzero.1 c.requires.d_nonzero.2 c.loop-root.invariant (omega arith) refl
    in
    record {
      period_le_d = le_of_dvd c.requires.d_nonzero.0 e.multiple;
      worst_le_period = e.fair.slow;
      d_le_longest_time = omega (arith, c.requires.d_nonzero.1, c.requires.ready.short);
    }

pub next_read-next-requires : goal.next_read-next-requires
next_read-next-requires c =
    let p = c.requires in
    let e = ending _ _ _ _ _ _ _ _ _ p.ready p.d_nonzero.1 p.d_nonzero.2 c.loop-root.invariant (omega arith) refl in
    record {
      period_nonzero = (e.fair.positive, e.multiple, omega (arith, e.fair.within, p.d_nonzero.1, p.ready.short), p.d_nonzero.2);
      readable = next_readable _ _ _ _ _ _ _ _ _ p.ready p.d_nonzero.1 p.d_nonzero.2 c.loop-root.invariant (omega arith) refl;
    }

pub key-requires : goal.key-requires
key-requires c =
    let test = c.loop-root-test.true in
    let p = c.requires in
    record {
      deadline_le_latest_deadline = next-short _ _ _ _ _ _ _ _ _ p.ready p.d_nonzero.1 p.d_nonzero.2 c.loop-root.invariant (omega (arith, test)) refl c.next_read-next.ensures;
      run_lt_most_invocations = omega arith;
    }

pub raise-root-requires : goal.raise-root-requires
raise-root-requires c =
    let test = c.loop-root-test.true in
    let e = ending _ _ _ _ _ _ _ _ _ c.requires.ready c.requires.d_nonzero.1 c.requires.d_nonzero.2 c.loop-root.invariant (omega (arith, test)) refl
    in
    record { tree = c.loop-root.invariant.waiting.whole; size_le_most_leaves = c.requires.ready.small; run_lt_size = omega (arith, e.run, c.requires.ready.few) }

pub overflow_add-taken : goal.overflow_add-taken
overflow_add-taken c =
    omega (arith, taken-few _ _ _ _ _ _ _ _ _ c.loop-root.invariant, c.requires.ready.few, c.requires.ready.small)

pub loop-root-smaller : goal.loop-root-smaller
loop-root-smaller c =
    let h = root_rises _ _ _ _ _ _ _ _ _ c.requires.ready c.requires.d_nonzero.1 c.requires.d_nonzero.2 c.loop-root.invariant (omega (arith, c.loop-root-test.true))
    refl c.next_read-next.ensures c.key.ensures c.raise-root.ensures in
    omega (arith, h)

pub loop-root-preserved : goal.loop-root-preserved
loop-root-preserved c =
    let later : c.max-best.result ≡ max c.loop-root.best c.behind_release-b.result.0 = search rules in
    taking_turn _ _ _ _ _ _ _ _ _ c.requires.ready c.requires.d_nonzero.1 c.requires.d_nonzero.2 c.loop-root.invariant (omega (arith, c.loop-root-test.true)) refl
    c.next_read-next.ensures c.key.ensures c.raise-root.ensures c.behind_release-b.ensures later

pub returns : goal.returns
returns c =
    taking_end _ _ _ _ _ _ _ _ _ c.requires.ready c.loop-root.invariant (omega arith)
