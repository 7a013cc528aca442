-- Two cases of k below the number of places, as `placed` has; the body was cut out, so its numbers are the file's (`cut_numbers`).
use mathlib.Core.Path.{refl}
use borrow.Author.Tests.{lt-ltb, le-ltb}
use Rattle.rules.specs.Records.{kinds, fields, body_length}
use Rattle.records.proofs.Bodies.{cut_numbers}
use Rattle.rules.specs.Checker.{data_row_of}
use Rattle.table.specs.Memory.{row_read}
use Rattle.table.proofs.read.data_row.Goals as goal

pub returns-then-k-lt-MOST : goal.returns-then-k-lt-MOST
unfolding row_read data_row_of body_length fields kinds
returns-then-k-lt-MOST c =
    let a = c.args in
    let is = c.body-row.ensures in
    rw (
      lt-ltb _ _ c.if-k-lt-MOST.true,
      cut_numbers 18 a.s.now a.body refl is,
      c.read8.ensures,
      c.read32.ensures,
      c.read32-then-k-lt-MOST.ensures,
      c.read32-then-k-lt-MOST-2.ensures,
    ) record { tasks_after = refl; deadlines_after = refl; starts_after = refl; stops_after = refl }

pub returns-else-k-lt-MOST : goal.returns-else-k-lt-MOST
returns-else-k-lt-MOST c = rw (le-ltb _ _ c.if-k-lt-MOST.false) record { tasks_after = refl; deadlines_after = refl; starts_after = refl; stops_after = refl }
