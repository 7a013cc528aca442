-- The two ways: there is such a task (`task-there`), or not (`task-not`).
use Rattle.std.proofs.Common.{rules, ◌≡◌, ◌∙◌, false, refl}
use borrow.Author.Tests.{le-ltb, lt-ltb}
use lib.Dec.{ltb}
use mathlib.Core.Bool.{◌&&◌}
use Rattle.outward.proofs.Seen.{task-there, task-not}
use Rattle.outward.proofs.task_now.Goals as goal
use Rattle.outward.proofs.task_now.Goals.{else-fixed-gt0-via-then-fixed-gt0+else-t-fixed, else-fixed-gt0-via-else-fixed-gt0}

pub returns-then-t-fixed : goal.returns-then-t-fixed
returns-then-t-fixed c =
    let a = c.args in
    rw c.task_at.ensures
    (task-there a.fixed a.play a.runs.now a.t (rw (lt-ltb 0 a.fixed.period.0 c.if-fixed-gt0.true, lt-ltb a.t a.fixed.tasks.count c.if-t-fixed.true)) refl)

pub returns-else-fixed-gt0 : goal.returns-else-fixed-gt0
returns-else-fixed-gt0 c =
    let a = c.args in
    let none : c.default.result ≡ record { there = 0; home = 0; awaits = 0; left = 0 } = search rules in
    let not_there : false ≡ (ltb 0 a.fixed.period.0 && ltb a.t a.fixed.tasks.count) =
    elim c.else-fixed-gt0.branch [
      | else-fixed-gt0-via-then-fixed-gt0+else-t-fixed w ↦
          rw (lt-ltb 0 a.fixed.period.0 w.if-fixed-gt0.true, le-ltb a.t a.fixed.tasks.count w.if-t-fixed.false)
      | else-fixed-gt0-via-else-fixed-gt0 w ↦ rw (le-ltb 0 a.fixed.period.0 w.if-fixed-gt0.false)
    ] in
    none ∙ task-not a.fixed a.play a.runs.now a.t not_there refl
