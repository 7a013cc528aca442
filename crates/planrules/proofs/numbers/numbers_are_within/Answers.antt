-- One case for each kind that has ranges, by the callee's promise; the others have none (`no_ranges`). Of a bus the callee judges the
-- struct, which has the record's numbers (`plain-within`, `framed_within`).
use borrow.Author.Rules.{rules}
use mathlib.Core.Path.{sym, ◌∙◌}
use Rattle.planrules.proofs.RecordTests.{no_ranges, plain-within, framed_within}
use Rattle.planrules.proofs.numbers.numbers_are_within.Goals as goal

pub returns-in-1 : goal.returns-in-1
returns-in-1 c =
    rw c.in-1.is
    (c.bus_is_within.ensures ∙ rw c.bus.ensures (plain-within c.args.body.now))

pub returns-in-9 : goal.returns-in-9
returns-in-9 c =
    rw c.in-9.is
    (c.bus_is_within-in-9.ensures ∙ rw c.framed_bus.ensures (framed_within c.args.body.now))

pub returns-in-4 : goal.returns-in-4
returns-in-4 c = rw c.in-4.is c.mode_is_within.ensures

pub returns-in-5 : goal.returns-in-5
returns-in-5 c = rw c.in-5.is c.task_is_within.ensures

pub returns-in-6 : goal.returns-in-6
returns-in-6 c = rw c.in-6.is c.rate_is_within.ensures

pub returns-in_default : goal.returns-in_default
returns-in_default c =
    sym (no_ranges _ _ (search rules) (search rules) (search rules) (search rules) (search rules))
