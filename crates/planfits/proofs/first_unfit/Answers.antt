-- Five ways out, each a case of refusal 5's rule (`Rule`); what a scan found lies within what it scanned.
use Rattle.std.proofs.Common.{length, arith}
use Rattle.laws.proofs.Loops.{first_bad-up_to-within}
use Rattle.rules.specs.Plan as rules
use Rattle.plan.specs.Memory.{seen}
use Rattle.plan.proofs.Sizes.{sizes}
use Rattle.planfits.proofs.Seen.{bad-switch, few}
use Rattle.planfits.proofs.Rule.{is_at, is_nowhere, module_bad, mode_bad, invocation_bad, connection_bad, all_fit}
use Rattle.planfits.proofs.first_unfit.Goals as goal

pub returns-in-Some : goal.returns-in-Some
returns-in-Some c = module_bad (seen c.args.p) (is_at c.first_without_mode.ensures c.in-Some.is)

pub returns-in-Some-first_bad_switch : goal.returns-in-Some-first_bad_switch
returns-in-Some-first_bad_switch c =
    rw c.module_count-first_mode.ensures.0
    (mode_bad (seen c.args.p) (is_nowhere c.first_without_mode.ensures c.in_default.is)
    (is_at (bad-switch c.args.p _ c.mode_count-modes.ensures.0 c.first_bad_switch.ensures) c.in-Some-first_bad_switch.is))

pub returns-in-Some-first_misfit : goal.returns-in-Some-first_misfit
returns-in-Some-first_misfit c =
    rw (c.module_count-first_mode.ensures.0, c.mode_count-modes.ensures.0, c.task_count-tasks.ensures.0)
    (invocation_bad (seen c.args.p) (is_nowhere c.first_without_mode.ensures c.in_default.is)
    (is_nowhere (bad-switch c.args.p _ c.mode_count-modes.ensures.0 c.first_bad_switch.ensures) c.in_default-first_bad_switch.is)
    (is_at c.first_misfit.ensures c.in-Some-first_misfit.is))

pub returns-in-Some-first_doubtful : goal.returns-in-Some-first_doubtful
returns-in-Some-first_doubtful c =
    rw (c.module_count-first_mode.ensures.0, c.mode_count-modes.ensures.0, c.task_count-tasks.ensures.0, c.invocation_count-runs.ensures.0)
    (connection_bad (seen c.args.p) (is_nowhere c.first_without_mode.ensures c.in_default.is)
    (is_nowhere (bad-switch c.args.p _ c.mode_count-modes.ensures.0 c.first_bad_switch.ensures) c.in_default-first_bad_switch.is)
    (is_nowhere c.first_misfit.ensures c.in_default-first_misfit.is)
    (is_at c.first_doubtful.ensures c.in-Some-first_doubtful.is))

pub returns : goal.returns
returns c =
    all_fit (seen c.args.p) (is_nowhere c.first_without_mode.ensures c.in_default.is)
    (is_nowhere (bad-switch c.args.p _ c.mode_count-modes.ensures.0 c.first_bad_switch.ensures) c.in_default-first_bad_switch.is)
    (is_nowhere c.first_misfit.ensures c.in_default-first_misfit.is)
    (is_nowhere c.first_doubtful.ensures c.in_default-first_doubtful.is)

pub overflow_add-result : goal.overflow_add-result
overflow_add-result c =
    let h = few c.args.p (sizes c.args.p _ c.well_formed.0) in
    omega (arith, h.modules, first_bad-up_to-within (rules.has_mode (seen c.args.p)) (length (seen c.args.p).modules) c.in-Some.module (is_at c.first_without_mode.ensures c.in-Some.is))

pub overflow_add-result-in-Some-first_misfit : goal.overflow_add-result-in-Some-first_misfit
overflow_add-result-in-Some-first_misfit c =
    let h = few c.args.p (sizes c.args.p _ c.well_formed.0) in
    omega (
      arith,
      h.invocations,
      c.module_count-first_mode.ensures.1,
      c.mode_count-modes.ensures.1,
      c.task_count-tasks.ensures.1,
      first_bad-up_to-within (rules.invocation_keeps (seen c.args.p)) (length (seen c.args.p).invocations) c.in-Some-first_misfit.run' (is_at c.first_misfit.ensures c.in-Some-first_misfit.is),
    )

pub overflow_add-result-in-Some-first_doubtful : goal.overflow_add-result-in-Some-first_doubtful
overflow_add-result-in-Some-first_doubtful c =
    let h = few c.args.p (sizes c.args.p _ c.well_formed.0) in
    omega (
      arith,
      h.connections,
      c.module_count-first_mode.ensures.1,
      c.mode_count-modes.ensures.1,
      c.task_count-tasks.ensures.1,
      c.invocation_count-runs.ensures.1,
      first_bad-up_to-within (rules.connection_keeps (seen c.args.p).connections) (length (seen c.args.p).connections) c.in-Some-first_doubtful.connection (is_at c.first_doubtful.ensures c.in-Some-first_doubtful.is),
    )
