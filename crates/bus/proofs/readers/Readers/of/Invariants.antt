-- Invariant: the counts and rows of the first t tasks are laid (`stores`, `rows_of`); each turn is `rows_turn`, the end `rows_are`.
use mathlib.Core.Path.{◌≡◌}
use Prim.Native.Nat.{ℕ}
use lib.ListN.{length, replicate}
use Rattle.laws.specs.Loops.{stores}
use Rattle.plan.specs.Memory.{seen}
use Rattle.rules.specs.Plan.{Plan}
use Rattle.rules.specs.Readers.{readers_of}
use Rattle.bus.proofs.Rows.{rows_of}
use Rattle.bus.proofs.readers.Readers.of.Given as goal

abbrev pub counted : Plan → ℕ → ℕ
counted q t = length (readers_of q t)

abbrev pub invariant-loop-t : goal.invariant-loop-t
invariant-loop-t l =
    (l.counts ≡ stores (replicate 32 0) (counted (seen l.p)) l.t) × (l.periods ≡ rows_of (readers_of (seen l.p)) l.t)
