-- From the width on the word has no bit.
use Rattle.std.proofs.Common.{arith}
use Rattle.std.proofs.lemmas.Bool.{le-ltb}
use Rattle.places.proofs.Bits.{no_bit}
use Rattle.places.proofs.has_bit.Goals as goal

pub returns-else-place-lt32 : goal.returns-else-place-lt32
returns-else-place-lt32 c =
    rw (no_bit c.args.bits 32 c.args.place (omega (arith, c.ranges.bits)) c.if-place-lt32.false, le-ltb _ _ c.if-place-lt32.false)
