use mathlib.Core.List.{List}
use mathlib.Core.Path.{ap}
use lib.ListN.{get_or}
use Rattle.planwords.specs.declared.Item.{Item}
use Rattle.planwords.specs.declared.Item.TheVariants.{Word}
use Rattle.planwords.specs.declared.Name.TheVariants.{Bus}
use Rattle.std.proofs.lemmas.Result.{err_from_is_err_and}
use Rattle.planreader.proofs.Holding.{holding_wrong, holding_turn, holding_end}
use Rattle.planreader.proofs.put_items.Goals as goal

pub returns-in_err-passed : goal.returns-in_err-passed
returns-in_err-passed c =
    let items = c.items_of-items.ensures.all in
    let here = ap (λ (l : List Item). get_or l c.loop-item.item-index (Word Bus)) items in
    let h = holding_wrong c.loop-item.invariant (Word Bus) (rw items at c.loop-item-test.true) here c.judge_at.ensures c.in_err-passed.was in
    let p = err_from_is_err_and c.from_residual.result c.from_residual.ensures.1 in
    record { value = rw (p.1, p.2) h.0; out_after = h.1 }

pub loop-item-preserved : goal.loop-item-preserved
loop-item-preserved c =
    let items = c.items_of-items.ensures.all in
    let here = ap (λ (l : List Item). get_or l c.loop-item.item-index (Word Bus)) items in
    holding_turn c.loop-item.invariant (Word Bus) (rw items at c.loop-item-test.true) here c.judge_at.ensures c.in_ok-passed.was
    (c.put_number-end.ensures.out_after, c.put_number-end.ensures.few)

pub returns : goal.returns
returns c =
    let items = c.items_of-items.ensures.all in
    let h = holding_end c.loop-item.invariant (rw items at c.loop-item-test.false) c.ended.ensures in
    record { value = h.0; out_after = h.1 }
