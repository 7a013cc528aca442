-- Where the table has no entry for so many bytes, each value fits (`large`).
use mathlib.Core.Path.{◌≡◌, sym}
use mathlib.Core.Bool.{true}
use native.Mathlib.Omega.{arith}
use native.Mathlib.Nat.{lt_of_lt_of_le, pow-le-pow_right}
use lib.Dec.{lit<, ltb}
use borrow.Author.Tests.{lt-ltb}
use Prim.Native.Nat.{ℕ, ◌≤◌, ◌<◌, ◌^◌}
use Rattle.stationruns.proofs.has_bytes.Goals as goal

large : (value size bytes : ℕ) → value < 2 ^ 64 → bytes ≡ size → 8 ≤ bytes → true ≡ ltb value (256 ^ size)
large value size bytes h e many =
    let most : 8 ≤ size = omega arith in
    let grows : 256 ^ 8 ≤ 256 ^ size = pow-le-pow_right (lit< tt) most in
    sym (lt-ltb value (256 ^ size) (lt_of_lt_of_le h grows))

pub returns-in-None : goal.returns-in-None
returns-in-None c = large c.args.value c.args.size.0 c.count.result (omega arith) c.count.ensures c.in-None.ensures.lookup.3
