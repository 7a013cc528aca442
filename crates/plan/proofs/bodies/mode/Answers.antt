-- The reads' promises are rewritten; `numbers-laid` says at which offsets the record's numbers stand.
use mathlib.Core.Path.{sym, ap}
use mathlib.Core.List.{List}
use Prim.Native.Nat.{ℕ}
use Rattle.rules.specs.Records.{fields, kinds}
use Rattle.rules.specs.Plan.{mode_of}
use Rattle.rules.proofs.BodyNumbers.{numbers-laid}
use Rattle.plan.specs.Memory.{mode_laid}
use Rattle.plan.proofs.bodies.mode.Goals as goal

pub returns : goal.returns
unfolding mode_laid mode_of fields kinds
returns c =
    rw (c.read8.ensures, c.read32.ensures, c.read32-2.ensures)
    (ap (λ (b : List ℕ). mode_laid (mode_of b)) (sym (numbers-laid c.args.body.now 0 4)))
