-- The lines and their end, one behind the other (`both_put`).
use Rattle.text.proofs.Putting.{both_put}
use Rattle.text.specs.Text.{line_feed}
use Rattle.manners.proofs.put_lines.Goals as goal

pub returns-clause-out_after : goal.returns-clause-out_after
returns-clause-out_after c =
    let a = c.args in
    both_put a.out.now c.put_bytes-end.new.buf c.put_bytes.new.buf a.lines.now line_feed a.at c.put_bytes-end.result c.put_bytes.result
    c.put_bytes-end.ensures c.put_bytes.ensures
