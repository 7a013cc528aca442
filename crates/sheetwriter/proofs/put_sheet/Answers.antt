-- The four parts are one sheet (`sheet-put`); arithmetic counts the bytes.
use mathlib.Core.Path.{ap}
use native.Mathlib.Omega.{arith}
use Rattle.bus.specs.Senders.{senders_of}
use Rattle.bus.specs.declared.senders.Senders.{Senders}
use Rattle.plan.specs.Memory.{seen}
use Rattle.sheetwriter.proofs.Ways.{sheet-put}
use Rattle.sheetwriter.proofs.put_sheet.Goals as goal

pub put_controls-rows_at-requires : goal.put_controls-rows_at-requires
unfolding senders_of
put_controls-rows_at-requires c = record {
  payloads_value = ap (λ (s : Senders). s.payloads) c.of-senders.ensures;
  controls_le_most_nodes = (omega (arith, c.min-controls.ensures), omega (arith, c.put_cycle-head_at.ensures.few, c.put_head-controls_at.ensures.few, c.requires));
}

pub put_datas-requires : goal.put_datas-requires
put_datas-requires c = (
  omega (arith, c.min-rows.ensures),
  omega (arith, c.min-controls.ensures),
  omega (arith, c.put_cycle-head_at.ensures.few, c.put_head-controls_at.ensures.few, c.put_controls-rows_at.ensures.few, c.requires),
)

pub returns : goal.returns
unfolding seen
returns c =
    let a = c.args in record {
      buf_after = sheet-put (seen a.p) _ _ _ _ _ _ _ _ _ _ _ _ _
          c.min-controls.ensures c.min-rows.ensures c.put_cycle-head_at.ensures.buf_after c.put_head-controls_at.ensures.buf_after c.put_controls-rows_at.ensures.buf_after c.put_datas.ensures.buf_after;
      few = omega (arith, c.put_cycle-head_at.ensures.few, c.put_head-controls_at.ensures.few, c.put_controls-rows_at.ensures.few, c.put_datas.ensures.few);
    }
