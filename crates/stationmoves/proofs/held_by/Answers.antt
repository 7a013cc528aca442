-- The row that `row_with` finds is put into both promises of `held_after`: it is the row that the rule looks for.
use mathlib.Core.Path.{ap, ◌∙◌}
use Rattle.laws.specs.Loops.{stores}
use Rattle.stationbus.specs.Bus.{held_rule}
use Rattle.stationmoves.proofs.held_by.Goals as goal

pub returns : goal.returns
returns c =
    let a = c.args in
    let f = a.fixed in
    let p = a.play in
    let when = rw c.from.ensures at c.row_with-ended.ensures in record {
      value = c.held_after.ensures.value ∙ ap (λ o. stores p.held
          (held_rule f.modules.sending f.modules.sites p.bytes f.controls.nodes p.held o) 128) when;
      reads = λ j w. c.held_after.ensures.reads j w ∙ ap
          (λ o. held_rule f.modules.sending f.modules.sites p.bytes f.controls.nodes p.held o j) when;
    }
