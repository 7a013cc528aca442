-- Two exits, one law each: too little room (`no_room`), else what is written (`sheet-written`).
use Rattle.std.proofs.Common.{refl}
use Rattle.olbiothar.proofs.Sheets.{no_room, sheet-written}
use Rattle.olbiothar.proofs.olbiothar_sheet.Goals as goal

pub returns-then-text-lt-LONGEST_SHEET : goal.returns-then-text-lt-LONGEST_SHEET
returns-then-text-lt-LONGEST_SHEET c =
    let a = c.args in
    let all = no_room a.plan.now a.table.now a.text.now c.if-text-lt-LONGEST_SHEET.true refl in
    record { value = all.0; text_after = all.1 }

pub returns : goal.returns
returns c =
    let a = c.args in
    let all = sheet-written a.plan.now a.table.now a.text.now _ c.if-text-lt-LONGEST_SHEET.false c.write-written.ensures.writes c.from.ensures refl in
    record { value = all.0; text_after = all.1 }
