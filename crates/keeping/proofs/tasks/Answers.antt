use mathlib.Core.Path.{ap}
use Rattle.laws.proofs.Turns.{filled_none, filled_turn}
use Rattle.plan.specs.Memory.{seen, task_laid}
use Rattle.plan.specs.declared.Task.{Task}
use Rattle.keeping.specs.Keeping.{tasks_of, task_home, task_size, task_worst}
use Rattle.keeping.proofs.Filling.{filled-all, size_small}
use Rattle.keeping.proofs.tasks.Goals as goal

pub loop-t-init : goal.loop-t-init
loop-t-init c = (filled_none, filled_none, filled_none)

pub overflow_cast-sizes : goal.overflow_cast-sizes
unfolding task_laid
overflow_cast-sizes c =
    record {
      fits = size_small (seen c.args.p) c.requires c.loop-t.t _
          (ap (λ (x : Task). x.size.0) c.task_at-task.ensures);
    }

pub loop-t-preserved : goal.loop-t-preserved
unfolding task_laid task_home task_size task_worst
loop-t-preserved c =
    let l = c.loop-t in
    let e = c.task_at-task.ensures in (
      filled_turn l.invariant.0 (ap (λ (x : Task). x.home.0) e),
      filled_turn l.invariant.1 (ap (λ (x : Task). x.size.0) e),
      filled_turn l.invariant.2 (ap (λ (x : Task). x.worst.0) e),
    )

pub returns : goal.returns
unfolding tasks_of
returns c =
    let l = c.loop-t in
    rw (
      c.task_count.ensures.0,
      filled-all 32 0 l.invariant.0 l.auto.t-end c.loop-t-test.false,
      filled-all 32 0 l.invariant.1 l.auto.t-end c.loop-t-test.false,
      filled-all 32 0 l.invariant.2 l.auto.t-end c.loop-t-test.false,
    )
