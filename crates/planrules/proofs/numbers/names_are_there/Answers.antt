-- One case for each kind that names something, by rewriting the callees' promises; the others name nothing (`no_names`).
use borrow.Author.Rules.{rules}
use mathlib.Core.Path.{sym}
use Rattle.planrules.proofs.RecordTests.{no_names}
use Rattle.planrules.proofs.numbers.names_are_there.Goals as goal

pub returns-in_default : goal.returns-in_default
returns-in_default c =
    sym (no_names _ _ _ (search rules) (search rules) (search rules)
    (search rules) (search rules))
