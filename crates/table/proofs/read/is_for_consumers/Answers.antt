-- The byte that is read at the front is the first of the file, or 0 (`first_byte`).
use mathlib.Core.Path.{◌≡◌, refl}
use mathlib.Core.List.{List, [], ◌∷◌}
use lib.ListN.{get_or, take, drop}
use native.Mathlib.Omega.{arith}
use Prim.Native.Nat.{ℕ}
use Rattle.laws.specs.Numbers.{number}
use Rattle.rules.specs.Records.{head_kind}
use Rattle.rules.specs.Checker.{is_for_consumers}
use Rattle.table.proofs.read.is_for_consumers.Goals as goal

first_byte : (s : List ℕ) → number (take 1 (drop 0 s)) ≡ get_or s 0 0
first_byte [] = refl
first_byte (b ∷ s) = omega arith

pub returns : goal.returns
unfolding is_for_consumers head_kind
returns c = rw (c.read8.ensures, first_byte c.args.table.now)
