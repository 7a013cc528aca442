-- Each refusal is a case of the rule: `six`, `seven`, `eight`. Past them `past_eight` gives what `framed` requires.
use mathlib.Core.Path.{refl, sym, ap, ◌∙◌}
use Rattle.laws.proofs.Divisors.{divides-true}
use Rattle.plan.specs.Memory.{seen, bus_seen}
use Rattle.answers.specs.declared.Refusal.TheVariants.{NoBusTask, PeriodDoesNotDivide, PeriodOffResolution}
use Rattle.bus.specs.declared.senders.Senders.{Senders}
use Rattle.bus.specs.Senders.{senders_of}
use Rattle.line.proofs.Ways.{lays_refused}
use Rattle.line.proofs.Cycle.{some_is, grid-positive, divides_seven, divides_eight, six, seven, eight, past_eight, runs_are}
use Rattle.line.proofs.of_plan.Goals as goal

pub returns-then-not-some_bus_task : goal.returns-then-not-some_bus_task
unfolding senders_of seen bus_seen
returns-then-not-some_bus_task c =
    let a = c.args in
    lays_refused NoBusTask _ refl c.requires.tasks_value _
    (six (seen a.p) (sym (some_is (seen a.p) c.requires.plan_kept.0 _ _ (ap (λ (x : Senders). x.tasks) c.of-senders.ensures)
    c.task_count.ensures.0) ∙ sym c.some_bus_task.ensures ∙ c.if-not-some_bus_task.true))

pub counted_runs-counted-requires : goal.counted_runs-counted-requires
unfolding senders_of seen bus_seen
counted_runs-counted-requires c = (c.requires.plan_kept.0, ap (λ (x : Senders). x.tasks) c.of-senders.ensures)

pub grid_of-grid-requires : goal.grid_of-grid-requires
unfolding senders_of seen bus_seen
grid_of-grid-requires c = (c.requires.plan_kept.0, ap (λ (x : Senders). x.modules) c.of-senders.ensures)

pub returns-then-not-period_divides : goal.returns-then-not-period_divides
unfolding senders_of seen bus_seen
returns-then-not-period_divides c =
    let a = c.args in
    let k = c.requires.plan_kept.0 in
    lays_refused PeriodDoesNotDivide _ refl c.requires.tasks_value _
    (seven (seen a.p) (sym (some_is (seen a.p) k _ _ (ap (λ (x : Senders). x.tasks) c.of-senders.ensures)
    c.task_count.ensures.0) ∙ sym c.some_bus_task.ensures ∙ c.if-not-some_bus_task.false)
    (divides_seven (seen a.p) k _ c.counted_runs-counted.ensures.1 _ _ c.grid_of-grid.ensures
    c.period_divides.ensures ∙ c.if-not-period_divides.true))

pub bus_period-period-requires : goal.bus_period-period-requires
unfolding senders_of seen bus_seen
bus_period-period-requires c =
    let a = c.args in
    let k = c.requires.plan_kept.0 in
    record {
      count_le_most_invocations = c.counted_runs-counted.ensures.0;
      grid_nonzero =
          rw c.grid_of-grid.ensures
          (grid-positive (seen a.p) k
          (sym (some_is (seen a.p) k _ _ (ap (λ (x : Senders). x.tasks) c.of-senders.ensures)
          c.task_count.ensures.0) ∙ sym c.some_bus_task.ensures ∙ c.if-not-some_bus_task.false));
      grid_value = sym c.period_divides.ensures ∙ c.if-not-period_divides.false;
    }

pub returns-then-not-divides : goal.returns-then-not-divides
unfolding senders_of seen bus_seen
returns-then-not-divides c =
    let a = c.args in
    let k = c.requires.plan_kept.0 in
    lays_refused PeriodOffResolution _ refl c.requires.tasks_value _
    (eight (seen a.p) (sym (some_is (seen a.p) k _ _ (ap (λ (x : Senders). x.tasks) c.of-senders.ensures)
    c.task_count.ensures.0) ∙ sym c.some_bus_task.ensures ∙ c.if-not-some_bus_task.false)
    (divides_seven (seen a.p) k _ c.counted_runs-counted.ensures.1 _ _ c.grid_of-grid.ensures
    c.period_divides.ensures ∙ c.if-not-period_divides.false)
    (divides_eight (seen a.p) k _ c.counted_runs-counted.ensures.1 _ _ _ c.bus_period-period.ensures.0 refl
    c.divides.ensures ∙ c.if-not-divides.true))

pub framed-requires : goal.framed-requires
unfolding senders_of seen bus_seen
framed-requires c =
    let a = c.args in
    let k = c.requires.plan_kept.0 in
    let some = sym (some_is (seen a.p) k _ _ (ap (λ (x : Senders). x.tasks) c.of-senders.ensures)
    c.task_count.ensures.0) ∙ sym c.some_bus_task.ensures ∙ c.if-not-some_bus_task.false in
    let seventh = divides_seven (seen a.p) k _ c.counted_runs-counted.ensures.1 _ _ c.grid_of-grid.ensures
    c.period_divides.ensures ∙ c.if-not-period_divides.false in
    record {
      plan_kept = c.requires.plan_kept;
      p_value = (some, divides-true _ _ seventh);
      senders_value = (
        c.of-senders.ensures,
        runs_are (seen a.p) k _ (ap (λ (x : Senders). x.tasks) c.of-senders.ensures) _ c.of-runs.ensures.0,
        c.bus_period-period.ensures.0 ∙ c.counted_runs-counted.ensures.1,
      );
      p_value_2 =
          past_eight (seen a.p) some seventh
          (divides_eight (seen a.p) k _ c.counted_runs-counted.ensures.1 _ _ _ c.bus_period-period.ensures.0 refl
          c.divides.ensures ∙ c.if-not-divides.false);
      tasks_value = c.requires.tasks_value;
    }
