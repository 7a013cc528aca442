-- Each exit: which row it is (`every_tick-row`, `consumers-row`, `nothing-row`).
use mathlib.Core.Path.{sym, ap, ◌∙◌}
use Rattle.plan.specs.Memory.{seen}
use Rattle.bus.specs.Readers.{row_laid}
use Rattle.bus.proofs.Rows.{every_tick-row, consumers-row, nothing-row}
use Rattle.bus.proofs.readers.row_of.Goals as goal

pub returns-then-full : goal.returns-then-full
returns-then-full c =
    let start = c.before in
    c.every_tick.ensures ∙ ap row_laid (sym (every_tick-row (seen start.args.p) start.args.t start.requires.full_value.0 c.if-full.true))

pub returns-then-produces : goal.returns-then-produces
returns-then-produces c =
    let start = c.before in
    c.consumers_row.ensures ∙ ap row_laid (sym (consumers-row (seen start.args.p) start.args.t start.requires.full_value.0 c.if-full.false))

pub returns-else-produces : goal.returns-else-produces
returns-else-produces c =
    let start = c.before in
    c.nothing.ensures
    ∙ ap row_laid (sym (nothing-row (seen start.args.p) start.args.t start.requires.full_value.0 c.if-full.false (sym start.requires.full_value.1 ∙ c.if-produces.false)))

pub consumers_row-requires : goal.consumers_row-requires
consumers_row-requires c = record { plan_kept = c.requires.plan_kept.0; lasting_value = c.requires.plan_kept.1 }
