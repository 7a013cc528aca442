-- Invariant: the table is marked by the first things (`IsMarked`); each turn is `turn-some` or `turn-none`, the end `turns_end`.
use mathlib.Core.Bool.{Bool}
use lib.ListN.{take}
use Prim.Native.Nat.{ℕ}
use Rattle.std.specs.Fn.{FnReturnsAt}
use Rattle.bus.specs.Tables.{Marks, IsMarked}
use Rattle.bus.proofs.by_number.mark.Given as goal

abbrev pub invariant-loop-thing : goal.invariant-loop-thing
invariant-loop-thing g l =
    (test : g.row.T.Denot → ℕ → Bool) → Marks (λ x r. FnReturnsAt g.F.Fn l.number_of x r) test l.things → IsMarked test l.initial.table (take l.thing-index l.things) l.table
