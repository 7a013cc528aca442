-- The reads' promises are rewritten; `numbers-laid` says at which offsets the record's numbers stand.
use mathlib.Core.Path.{sym, ap}
use mathlib.Core.List.{List}
use Prim.Native.Nat.{ℕ}
use Rattle.rules.specs.Records.{fields, kinds, record_of}
use Rattle.rules.specs.Plan.{bus_of}
use Rattle.rules.proofs.BodyNumbers.{numbers-laid}
use Rattle.plan.specs.Memory.{bus_laid, with_byte_bits}
use Rattle.plan.proofs.bodies.bus_with.Goals as goal

pub returns : goal.returns
unfolding bus_laid with_byte_bits bus_of record_of fields kinds
returns c =
    let a = c.args in
    rw (
      c.from.ensures,
      c.from-2.ensures,
      c.from-3.ensures,
      c.from-4.ensures,
      c.read16.ensures,
      c.read16-2.ensures,
      c.read16-3.ensures,
      c.read16-4.ensures,
      c.read32.ensures,
      c.read32-2.ensures,
    )
    (ap (λ (b : List ℕ). bus_laid (with_byte_bits a.bits.0 (bus_of (record { kind = 1; numbers = b })))) (sym (numbers-laid a.body.now 0 1)))
