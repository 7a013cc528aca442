use native.Mathlib.Omega.{arith}
use mathlib.Core.List.{List}
use mathlib.Core.Path.{ap}
use lib.ListN.{get_or, length}
use Rattle.planwords.specs.declared.Item.{Item}
use Rattle.planwords.specs.declared.Item.TheVariants.{Word}
use Rattle.planwords.specs.declared.Name.TheVariants.{Bus}
use Rattle.planwriter.proofs.Pieces.{itemed_none, itemed_turn, itemed_end}
use Rattle.planwriter.proofs.put_items.Goals as goal

pub loop-item-init : goal.loop-item-init
loop-item-init c = (omega arith, omega arith, itemed_none)

pub loop-item-preserved : goal.loop-item-preserved
loop-item-preserved c =
    let i = c.loop-item.invariant in
    let put = c.put_item-next.ensures in
    let wide = c.item_wide-from.ensures in
    let items = c.items_of-items.ensures.all in
    let here = ap (λ (l : List Item). get_or l c.loop-item.item-index (Word Bus)) items in (
      omega (arith, put.few, i.0),
      omega (arith, wide.1, i.1),
      itemed_turn (Word Bus) i.2 (rw items at c.loop-item-test.true) here wide.0 put.out_after,
    )

pub returns : goal.returns
returns c =
    let i = c.loop-item.invariant in
    let items = c.items_of-items.ensures in
    record {
      out_after = itemed_end i.2 (ap length items.all) c.loop-item-test.false;
      few = omega (arith, i.0, items.few, c.loop-item.auto.item-index-end);
    }
