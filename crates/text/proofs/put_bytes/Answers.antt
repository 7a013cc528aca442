use Rattle.std.proofs.Common.{◌∙◌}
use Rattle.text.proofs.Putting.{put_byte}
use Rattle.text.proofs.put_bytes.Goals as goal

pub loop-i-preserved : goal.loop-i-preserved
loop-i-preserved c = c.store.ensures ∙ put_byte c.args.buf.now _ c.args.s.now c.args.at c.loop-i.i c.loop-i.invariant c.loop-i-test.true
