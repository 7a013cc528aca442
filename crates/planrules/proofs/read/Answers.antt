-- Two cases of the gathering: a plan, the promise of `judged` is passed on; broken, it is refusal 1 (`way_broken`).
use Rattle.std.proofs.Common.{refl, sym, ◌∙◌}
use Rattle.planrules.proofs.Judging.{way_broken}
use Rattle.planrules.proofs.read.Goals as goal

pub returns-in-Err : goal.returns-in-Err
returns-in-Err c = way_broken _ _ _ (sym c.gather.ensures ∙ c.in-Err.is) refl
