-- A store within computes; one behind the end changes nothing (`set_out`).
use mathlib.Core.Path.{◌≡◌}
use native.Mathlib.Omega.{arith}
use lib.ListN.{length}
use lib.Seq.{set_out}
use borrow.Author.Rules.{rules}
use Rattle.history.proofs.Places.with_value.Goals as goal

pub returns-then-place : goal.returns-then-place
returns-then-place c = rw c.flag_byte.ensures

pub returns-else-place : goal.returns-else-place
returns-else-place c =
    let a = c.args in
    let values : length a.self.values ≡ 32 = search rules in
    let given : length a.self.given ≡ 32 = search rules in
    rw (set_out a.self.values a.place a.value (omega arith), set_out a.self.given a.place 1 (omega arith))
