-- The reads' promises are rewritten; `numbers-laid` says at which offsets the record's numbers stand.
use mathlib.Core.Path.{sym, ap}
use mathlib.Core.List.{List}
use Prim.Native.Nat.{ℕ}
use Rattle.rules.specs.Records.{fields, kinds}
use Rattle.rules.specs.Plan.{invocation_of}
use Rattle.rules.proofs.BodyNumbers.{numbers-laid}
use Rattle.plan.specs.Memory.{invocation_laid}
use Rattle.plan.proofs.bodies.invocation.Goals as goal

pub returns : goal.returns
unfolding invocation_laid invocation_of fields kinds
returns c =
    rw (c.from.ensures, c.read16.ensures, c.read8.ensures, c.read8-2.ensures)
    (ap (λ (b : List ℕ). invocation_laid (invocation_of b))
    (sym (numbers-laid c.args.body.now 0 6)))
