-- The quotient's promise makes the product `up`; `up_le` bounds it, so that it does not wrap.
use mathlib.Core.Path.{◌≡◌}
use native.Mathlib.Omega.{arith}
use Prim.Native.Nat.{◌*◌}
use Rattle.laws.specs.Numbers.{up}
use Rattle.laws.proofs.Bus.{up_le}
use Rattle.times.proofs.multiple_up.Goals as goal
use Rattle.times.proofs.multiple_up.Goals.{After-from}

rounded : (c : After-from) → c.quotient_up.result * c.from.result ≡ up c.args.r c.args.x
unfolding up
rounded c = rw (c.quotient_up.ensures.0, c.from.ensures)

pub overflow_mul-result : goal.overflow_mul-result
overflow_mul-result c = omega (arith, rounded c, up_le c.args.r c.args.x)

pub returns : goal.returns
returns c = (rounded c, rw (rounded c) (up_le c.args.r c.args.x))
