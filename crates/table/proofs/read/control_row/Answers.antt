-- Two cases of k below the number of places, as `placed` has; the body was cut out, so its numbers are the file's (`cut_numbers`).
use mathlib.Core.Path.{refl}
use borrow.Author.Tests.{lt-ltb, le-ltb}
use Rattle.rules.specs.Records.{kinds, fields, body_length}
use Rattle.records.proofs.Bodies.{cut_numbers}
use Rattle.rules.specs.Checker.{control_row_of}
use Rattle.table.specs.Memory.{control_read}
use Rattle.table.proofs.read.control_row.Goals as goal

pub returns-then-k-lt-MOST : goal.returns-then-k-lt-MOST
unfolding control_read control_row_of body_length fields kinds
returns-then-k-lt-MOST c =
    let a = c.args in
    let is = c.body-row.ensures in
    rw (
      lt-ltb _ _ c.if-k-lt-MOST.true,
      cut_numbers 17 a.s.now a.body refl is,
      c.read8.ensures,
      c.read32.ensures,
      c.read32-then-k-lt-MOST.ensures,
    ) record { nodes_after = refl; starts_after = refl; stops_after = refl }

pub returns-else-k-lt-MOST : goal.returns-else-k-lt-MOST
returns-else-k-lt-MOST c = rw (le-ltb _ _ c.if-k-lt-MOST.false) record { nodes_after = refl; starts_after = refl; stops_after = refl }
