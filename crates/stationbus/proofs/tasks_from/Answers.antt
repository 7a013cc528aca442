use mathlib.Core.Path.{refl, ◌∙◌}
use mathlib.Core.Bool.{true, false}
use borrow.Author.Tests.{eq-eqb, ne_eqb, lt-ltb, le-ltb}
use Rattle.stationbus.proofs.Pairs.{flag_met, flag_missed}
use Rattle.stationbus.proofs.tasks_from.Goals as goal
use Rattle.stationbus.proofs.tasks_from.Goals.{
  then-entry_or-time+then-task-lt-MOST,
  else-entry_or-time,
  else-entry_or-time-via-then-entry_or-time+else-task-lt-MOST,
  else-entry_or-time-via-else-entry_or-time,
}

pub loop-q-preserved : goal.loop-q-preserved
loop-q-preserved c =
    let a = c.args in
    let task = c.from-task.ensures ∙ c.entry_or.ensures in
    let time = c.entry_or-in-loop-q.ensures in
    elim c.if-entry_or-time.branch [
      | then-entry_or-time+then-task-lt-MOST w ↦ flag_met a.pair_tasks.now a.times.now a.time.0 c.loop-q.q {hit = true} task
          (rw (← time, eq-eqb _ _ w.if-entry_or-time.true, lt-ltb _ _ w.if-task-lt-MOST.true)) c.loop-q.invariant refl w.some-is
      | else-entry_or-time w ↦ flag_missed a.pair_tasks.now a.times.now a.time.0 c.loop-q.q {hit = false} task
          (elim w.else-entry_or-time.branch [
            | else-entry_or-time-via-then-entry_or-time+else-task-lt-MOST v ↦ rw (← time, eq-eqb _ _ v.if-entry_or-time.true, le-ltb _ _ v.if-task-lt-MOST.false)
            | else-entry_or-time-via-else-entry_or-time v ↦ rw (← time, ne_eqb _ _ v.if-entry_or-time.false)
          ]) c.loop-q.invariant refl w.some-is
    ]
