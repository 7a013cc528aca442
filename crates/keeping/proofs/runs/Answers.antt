use mathlib.Core.Path.{ap, ◌∙◌}
use Prim.Native.Nat.{◌-◌}
use native.Mathlib.Omega.{arith}
use Rattle.rules.specs.Plan.{the_mode}
use Rattle.plan.specs.Memory.{seen, mode_laid}
use Rattle.keeping.proofs.Filling.{stored-none, stored_turn, stored-all, names}
use Rattle.keeping.proofs.runs.Goals as goal

pub loop-left-init : goal.loop-left-init
loop-left-init c = stored-none (seen c.args.p) c.invocation_count-left.ensures.0

pub nonzero_div-runs : goal.nonzero_div-runs
nonzero_div-runs c =
    (names (seen c.args.p) c.requires (c.loop-left.left - 1)
    (omega (arith, c.loop-left.invariant.within, c.loop-left-test.true)) _ c.invocation_at-run.ensures).rate

pub overflow_mul-runs : goal.overflow_mul-runs
overflow_mul-runs c =
    let n = names (seen c.args.p) c.requires (c.loop-left.left - 1)
    (omega (arith, c.loop-left.invariant.within, c.loop-left-test.true)) _ c.invocation_at-run.ensures in
    omega (arith, n.mode, c.place-in-loop-left.ensures)

pub overflow_add-runs : goal.overflow_add-runs
overflow_add-runs c =
    let n = names (seen c.args.p) c.requires (c.loop-left.left - 1)
    (omega (arith, c.loop-left.invariant.within, c.loop-left-test.true)) _ c.invocation_at-run.ensures in
    omega (arith, n.mode, n.task, c.place-in-loop-left.ensures, c.place-in-loop-left-2.ensures)

pub offset_bounds-runs-place : goal.offset_bounds-runs-place
offset_bounds-runs-place c =
    let n = names (seen c.args.p) c.requires (c.loop-left.left - 1)
    (omega (arith, c.loop-left.invariant.within, c.loop-left-test.true)) _ c.invocation_at-run.ensures in
    omega (arith, n.mode, n.task, c.place-in-loop-left.ensures, c.place-in-loop-left-2.ensures)

pub bounds-runs-place : goal.bounds-runs-place
bounds-runs-place c =
    let n = names (seen c.args.p) c.requires (c.loop-left.left - 1)
    (omega (arith, c.loop-left.invariant.within, c.loop-left-test.true)) _ c.invocation_at-run.ensures in
    omega (arith, n.mode, n.task, c.place-in-loop-left.ensures, c.place-in-loop-left-2.ensures)

pub loop-left-preserved : goal.loop-left-preserved
loop-left-preserved c =
    let a = c.args in
    stored_turn (seen a.p) c.invocation_at-run.result c.requires c.loop-left.invariant
    c.loop-left-test.true c.invocation_at-run.ensures
    (c.mode_at-mode.ensures ∙ ap (λ k. mode_laid (the_mode (seen a.p) k)) c.place.ensures)
    c.place-in-loop-left.ensures c.place-in-loop-left-2.ensures

pub returns : goal.returns
returns c = stored-all (seen c.args.p) c.loop-left.invariant c.loop-left-test.false
