use Rattle.std.proofs.Common.{◌≡◌, sym, ap, ◌∙◌, true, false, not, arith, take, length-take, rules as needs}
use Rattle.std.proofs.lemmas.List.{take_all}
use Rattle.std.proofs.lemmas.List.Folds.{list_any_at}
use Rattle.laws.proofs.Loops.{first_bad-up_to_more}
use Rattle.rules.specs.Plan as rules
use Rattle.rules.specs.Plan.{invocation_keeps}
use Rattle.plan.specs.Memory.{seen, invocation_laid, mode_laid, task_laid}
use Rattle.planfits.proofs.Seen.{the-mode, the-task, unfit, repeated}
use Rattle.planfits.proofs.Rule.{met}
use Rattle.planfits.proofs.first_misfit.Goals as goal

pub returns-then-not-fits_its_mode : goal.returns-then-not-fits_its_mode
unfolding invocation_laid mode_laid task_laid
returns-then-not-fits_its_mode c =
    let p = c.args.p in
    let count = c.invocation_count.ensures.0 in
    let zero : c.default.result ≡ mode_laid rules.no_mode = search needs in
    let none : c.default-in-pairs.result ≡ task_laid rules.no_task = search needs in
    let mode = the-mode p _ c.mode_count.ensures.0 _ zero (c.entry_or-mode.ensures ∙ rw c.place.ensures) in
    let task = the-task p _ c.task_count.ensures.0 _ none (c.entry_or-task.ensures ∙ rw c.place-in-pairs.ensures) in
    met (invocation_keeps (seen p)) (omega (arith, length-take c.invocation_count.result p.invocations)) c.pairs.invariant.0
    (unfit p _ count c.pairs.k
    (record { mode = _; task = _; mode_is = mode; task_is = task; fits_is = sym c.if-not-fits_its_mode.true ∙ c.fits_its_mode.ensures }))

pub returns-then-same_run : goal.returns-then-same_run
unfolding invocation_laid mode_laid task_laid
returns-then-same_run c =
    let p = c.args.p in
    let zero : c.default.result ≡ mode_laid rules.no_mode = search needs in
    let none : c.default-in-pairs.result ≡ task_laid rules.no_task = search needs in
    let mode = the-mode p _ c.mode_count.ensures.0 _ zero (c.entry_or-mode.ensures ∙ rw c.place.ensures) in
    let task = the-task p _ c.task_count.ensures.0 _ none (c.entry_or-task.ensures ∙ rw c.place-in-pairs.ensures) in
    met (invocation_keeps (seen p)) (omega (arith, length-take c.invocation_count.result p.invocations)) c.pairs.invariant.0
    (repeated p _ c.invocation_count.ensures.0 c.pairs.k
    (record { mode = _; task = _; mode_is = mode; task_is = task; fits_is = sym c.if-not-fits_its_mode.false ∙ c.fits_its_mode.ensures })
    (sym (list_any_at _ _ c.loop-other.other-index _ c.loop-other-test.true (sym c.same_run.ensures ∙ c.if-same_run.true))))

pub pairs-preserved : goal.pairs-preserved
unfolding invocation_laid mode_laid task_laid
pairs-preserved c =
    let p = c.args.p in
    let zero : c.default.result ≡ mode_laid rules.no_mode = search needs in
    let none : c.default-in-pairs.result ≡ task_laid rules.no_task = search needs in
    let mode = the-mode p _ c.mode_count.ensures.0 _ zero (c.entry_or-mode.ensures ∙ rw c.place.ensures) in
    let task = the-task p _ c.task_count.ensures.0 _ none (c.entry_or-task.ensures ∙ rw c.place-in-pairs.ensures) in (
      first_bad-up_to_more (invocation_keeps (seen p)) c.pairs.k c.pairs.invariant.0
          (repeated p _ c.invocation_count.ensures.0 c.pairs.k {r = false}
          (record { mode = _; task = _; mode_is = mode; task_is = task; fits_is = sym c.if-not-fits_its_mode.false ∙ c.fits_its_mode.ensures })
          (sym (rw (← take_all c.loop-other.other-index (take c.pairs.k (take c.invocation_count.result p.invocations)) c.loop-other-test.false) c.loop-other.invariant.0))),
      c.loop-other.invariant.1,
    )
