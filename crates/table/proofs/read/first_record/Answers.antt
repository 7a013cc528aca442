-- The body was cut out, so its numbers are the file's (`cut_numbers`); the promises of the three reads are these, each at its offset.
use mathlib.Core.Path.{refl}
use Rattle.rules.specs.Records.{kinds, fields, body_length}
use Rattle.records.proofs.Bodies.{cut_numbers}
use Rattle.table.specs.Memory.{header_of, header_read}
use Rattle.table.proofs.read.first_record.Goals as goal

pub returns : goal.returns
unfolding header_read header_of body_length fields kinds
returns c =
    let a = c.args in
    let is = c.body-first.ensures in
    rw (
      cut_numbers 16 a.s.now a.body refl is,
      c.read32.ensures,
      c.from.ensures,
      c.from-2.ensures,
      c.read8.ensures,
      c.read16.ensures,
    )
