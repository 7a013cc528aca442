-- Two exits, one law each: a text that is too long (`too_long`), else what it reads to (`table_back`).
use mathlib.Core.Path.{refl}
use Rattle.olbiothar.proofs.Sheets.{too_long, table_back}
use Rattle.olbiothar.proofs.olbiothar_sheet_table.Goals as goal

pub returns-then-text-gt-LONGEST_SHEET : goal.returns-then-text-gt-LONGEST_SHEET
returns-then-text-gt-LONGEST_SHEET c =
    let a = c.args in
    let all = too_long a.text.now a.table.now c.if-text-gt-LONGEST_SHEET.true refl in
    record { value = all.0; table_after = all.1 }

pub returns : goal.returns
returns c =
    let a = c.args in
    let all = table_back a.text.now a.table.now c.if-text-gt-LONGEST_SHEET.false c.read_back-back.ensures.value c.read_back-back.ensures.table_after c.read_said.ensures in
    record { value = all.0; table_after = all.1 }
