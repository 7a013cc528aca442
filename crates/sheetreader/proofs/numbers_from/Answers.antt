use Rattle.std.proofs.Common.{◌∙◌}
use Rattle.sheet.specs.declared.Form.TheVariants as form
use Rattle.sheetreader.proofs.Numbering.{numbering_none, numbering_turn, numbering_wrong, numbering_end, form_here}
use Rattle.sheetreader.proofs.numbers_from.Goals as goal

pub loop-k-init : goal.loop-k-init
loop-k-init c = numbering_none

pub returns-in_err-taken : goal.returns-in_err-taken
returns-in_err-taken c =
    c.from_residual.ensures
    ∙ rw (← c.forms_of-forms.ensures)
    (numbering_wrong c.loop-k.invariant c.loop-k-test.true (form_here _ form.End _ _ c.loop-k-test.true) c.number_at.ensures
    (c.in_err-taken.was {u = tt}))

pub loop-k-preserved : goal.loop-k-preserved
loop-k-preserved c =
    numbering_turn c.loop-k.invariant c.loop-k-test.true (form_here _ form.End _ _ c.loop-k-test.true) c.number_at.ensures
    (c.in_ok-taken.was {u = tt})

pub returns : goal.returns
returns c = rw (← c.forms_of-forms.ensures) (numbering_end c.loop-k.invariant c.loop-k-test.false c.ended.ensures)
