-- The reads' promises are rewritten; `numbers-laid` says at which offsets the record's numbers stand.
use mathlib.Core.Path.{sym, ap}
use mathlib.Core.List.{List}
use Prim.Native.Nat.{ℕ}
use Rattle.rules.specs.Records.{fields, kinds}
use Rattle.rules.specs.Plan.{task_of}
use Rattle.rules.proofs.BodyNumbers.{numbers-laid}
use Rattle.plan.specs.Memory.{task_laid}
use Rattle.plan.proofs.bodies.task.Goals as goal

pub returns : goal.returns
unfolding task_laid task_of fields kinds
returns c =
    rw (c.from.ensures, c.read8-2.ensures, c.read8.ensures, c.read32.ensures)
    (ap (λ (b : List ℕ). task_laid (task_of b)) (sym (numbers-laid c.args.body.now 0 5)))
