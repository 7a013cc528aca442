-- The read's promise is rewritten; `numbers-laid` says at which offset the record's number stands.
use mathlib.Core.Path.{sym, ap}
use mathlib.Core.List.{List}
use Prim.Native.Nat.{ℕ}
use Rattle.rules.specs.Records.{fields, kinds}
use Rattle.rules.specs.Plan.{module_of}
use Rattle.rules.proofs.BodyNumbers.{numbers-laid}
use Rattle.plan.specs.Memory.{module_laid}
use Rattle.plan.proofs.bodies.module.Goals as goal

pub returns : goal.returns
unfolding module_laid module_of fields kinds
returns c =
    rw c.read8.ensures
    (ap (λ (b : List ℕ). module_laid (module_of b)) (sym (numbers-laid c.args.body.now 0 3)))
