-- Invariant: the places of the first things hold what these give (`stores`).
use mathlib.Core.Path.{◌≡◌}
use Prim.Native.Nat.{ℕ}
use Rattle.std.specs.Fn.{FnReturnsAt}
use Rattle.laws.specs.Loops.{stores}
use Rattle.bus.specs.Tables.{Gives}
use Rattle.bus.proofs.by_number.fill.Given as goal

abbrev pub invariant-loop-number : goal.invariant-loop-number
invariant-loop-number g l =
    (f : ℕ → g.row.V.Denot) → Gives (λ x v. FnReturnsAt g.F.Fn l.number_of x v) f l.things → l.table ≡ stores l.initial.table f l.number
