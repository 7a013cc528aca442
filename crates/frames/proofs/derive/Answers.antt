use mathlib.Core.Path.{refl}
use native.Mathlib.Omega.{arith}
use Rattle.frames.proofs.Walking.{ready, walked_start, steps-few, place-of, walked_turn, walk_less, walked-full, walked_all}
use Rattle.frames.proofs.derive.Goals as goal

pub plant-tree-requires : goal.plant-tree-requires
plant-tree-requires c = ready _ _ _ _ _ _ _ c.leaves-size.ensures c.requires.cycle_le_longest_time c.requires.runs_value c.requires.are_read

pub grow-requires : goal.grow-requires
grow-requires c =
    record { tree_len = c.plant-tree.ensures.places; size_nonzero = (c.leaves-size.ensures.1, c.leaves-size.ensures.2) }

pub loop-root-init : goal.loop-root-init
loop-root-init c =
    let r = ready _ _ _ _ _ _ _ c.leaves-size.ensures c.requires.cycle_le_longest_time c.requires.runs_value c.requires.are_read in
    (r, walked_start _ _ _ _ _ _ _ _ _ _ r c.plant-tree.ensures c.grow.ensures refl, omega arith)

pub meet-met-requires : goal.meet-met-requires
meet-met-requires c =
    let p = place-of _ _ _ _ _ _ _ _ _ _ c.loop-root.invariant.0 c.loop-root.invariant.1 (omega arith) refl c.task_no-t.ensures in
    record {
      ready = c.loop-root.invariant.0;
      d_nonzero = (p.begun, p.inside, p.short);
      waiting = p.waiting;
      first_value = c.loop-root.invariant.1.root_is;
    }

pub put-count-requires : goal.put-count-requires
put-count-requires c =
    c.loop-root.invariant.2

pub overflow_add-steps : goal.overflow_add-steps
overflow_add-steps c =
    let w = walked_turn _ _ _ _ _ _ _ _ _ _ c.loop-root.invariant.0 c.loop-root.invariant.1 (omega arith) refl c.task_no-t.ensures c.meet-met.ensures c.put-count.ensures c.loop-root.invariant.2 in
    omega (arith, steps-few _ _ _ _ _ _ _ _ _ _ w, c.loop-root.invariant.0.few, c.loop-root.invariant.0.small)

pub returns-then-count-gt-MOST : goal.returns-then-count-gt-MOST
returns-then-count-gt-MOST c =
    let w = walked_turn _ _ _ _ _ _ _ _ _ _ c.loop-root.invariant.0 c.loop-root.invariant.1 (omega arith) refl c.task_no-t.ensures c.meet-met.ensures c.put-count.ensures c.loop-root.invariant.2 in
    record { derived = walked-full _ _ _ _ _ _ _ _ _ _ w (omega arith); steps_bound = steps-few _ _ _ _ _ _ _ _ _ _ w }

pub loop-root-smaller : goal.loop-root-smaller
loop-root-smaller c =
    walk_less _ _ _ _ _ _ _ _ _ _ c.loop-root.invariant.0 c.loop-root.invariant.1 (omega arith) refl c.task_no-t.ensures c.meet-met.ensures
    c.put-count.ensures

pub loop-root-preserved : goal.loop-root-preserved
loop-root-preserved c = (
  c.loop-root.invariant.0,
  walked_turn _ _ _ _ _ _ _ _ _ _ c.loop-root.invariant.0 c.loop-root.invariant.1 (omega arith) refl c.task_no-t.ensures c.meet-met.ensures
      c.put-count.ensures c.loop-root.invariant.2,
  omega arith,
)

pub returns : goal.returns
returns c =
    let w = c.loop-root.invariant.1 in
    record { derived = walked_all _ _ _ _ _ _ _ _ _ _ w c.loop-root.invariant.0 (omega arith); steps_bound = steps-few _ _ _ _ _ _ _ _ _ _ w }
