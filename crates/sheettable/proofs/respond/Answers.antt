-- Four exits: too long, a table, a line that cannot be read, and more room needed, which never comes; a law for each.
use Rattle.std.proofs.Common.{◌∙◌, ap}
use Rattle.std.specs.Prelude.{Err}
use Rattle.sheettable.proofs.Answers.{line_response, long_response, never_needs, table_response}
use Rattle.sheettable.proofs.respond.Goals as goal

pub returns-then-sheet-gt-LONGEST_SHEET : goal.returns-then-sheet-gt-LONGEST_SHEET
returns-then-sheet-gt-LONGEST_SHEET c =
    let all =
    let a = c.args in
    long_response a.sheet.now a.out.now c.requires c.if-sheet-gt-LONGEST_SHEET.true c.put_too_long.ensures c.refused.ensures in
    record { out_after = all.0; status_value = all.1.0; prefix_len = all.1.1 }

pub returns-in-Ok : goal.returns-in-Ok
returns-in-Ok c =
    let all =
    let a = c.args in
    table_response a.sheet.now a.out.now c.requires c.if-sheet-gt-LONGEST_SHEET.false _ _ c.read_back.ensures.value c.read_back.ensures.table_after c.in-Ok.is c.done.ensures in
    record { out_after = all.0; status_value = all.1.0; prefix_len = all.1.1 }

pub returns-in-Err-Unreadable : goal.returns-in-Err-Unreadable
returns-in-Err-Unreadable c =
    let all =
    let a = c.args in
    line_response a.sheet.now a.out.now c.requires c.if-sheet-gt-LONGEST_SHEET.false _ _ c.read_back.ensures.value c.read_back.ensures.table_after (c.in-Err-Unreadable.is ∙ ap Err c.in-Err-Unreadable.field-0-is) c.put_unreadable.ensures.out_after c.put_unreadable.ensures.few c.refused-in-Err-Unreadable.ensures in
    record { out_after = all.0; status_value = all.1.0; prefix_len = all.1.1 }

pub returns-in-Err-Needs : goal.returns-in-Err-Needs
returns-in-Err-Needs c =
    let a = c.args in
    never_needs a.sheet.now a.out.now c.requires c.if-sheet-gt-LONGEST_SHEET.false _ _ c.read_back.ensures.value c.read_back.ensures.table_after (c.in-Err-Needs.is ∙ ap Err c.in-Err-Needs.field-0-is)
