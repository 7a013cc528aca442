-- The passes and `settled`, one after another; the scan leaves the rows.
use Rattle.std.proofs.Common.{◌∙◌, ap, sym, false}
use Rattle.rows.specs.Passes.{rows_after, cleared_row}
use Rattle.rows.proofs.Scanned.{looked-rows}
use Rattle.olbiothar.proofs.scanned.Goals as goal

pub returns : goal.returns
returns c =
    let a = c.args in
    let early = c.some_early-early in
    let settled = c.settled-settled in
    let n = a.unscanned.frames in
    record {
      early = early.result;
      ruling = settled.result;
      looked = early.ensures;
      settled = settled.ensures;
      cleared = c.clear.ensures.rows_value ∙ ap (rows_after cleared_row n settled.result.refused) (sym (looked-rows n false a.rows.now));
      told = c.from.ensures;
    }
